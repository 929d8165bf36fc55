-- A loop that writes to one place after another.
use Rattle.std.proofs.Common.{◌≡◌, ℕ, ◌+◌, ◌-◌, ◌<◌, ◌≤◌, ◌≢◌, ◌⊎◌, List, ◌++◌, length, take, drop, set, sym, refl, ap, ◌∙◌, subst, inl, inr, arith}
use borrow.Rule.Slice.PartMut.{put_mid}
use Rattle.std.proofs.lemmas.List.{get_or-set_other, get_or_append_left, get_or-append_right, get_or-take, get_or-drop, length-take-le}
use Rattle.std.proofs.lemmas.List.Edits.{fill_by_more}
use Rattle.std.proofs.lemmas.List.FromFn.{fill_by_all}
use Rattle.std.proofs.lemmas.Bool.{cases_lt}
use Rattle.model.specs.Words.{at, each}
use Rattle.model.proofs.Listed.{at_each, length_each}

-- the first k places have what f says, and the others what they had
pub record Written (f : ℕ → ℕ) (was is : List ℕ) (k : ℕ) : Type 0 where
  pub done : (j : ℕ) → j < k → at is j ≡ f j
  pub left : (j : ℕ) → k ≤ j → at is j ≡ at was j

pub each_same : (n : ℕ) (f g : ℕ → ℕ) → ((i : ℕ) → i < n → f i ≡ g i) → each n f ≡ each n g
each_same n f g e = fill_by_all g (each n f) n 0 (length_each n f) (λ j h. at_each n f j h ∙ e j h)

-- a number of a piece of a list
pub at_piece : (n start : ℕ) (xs : List ℕ) (i : ℕ) → i < n → at (take n (drop start xs)) i ≡ at xs (start + i)
at_piece n start xs i h = get_or-take n (drop start xs) i 0 h ∙ get_or-drop start xs i 0

module _ (f : ℕ → ℕ) (was : List ℕ) where
  pub written_none : Written f was was 0
  written_none = record { done = λ j h. absurd (omega arith); left = λ j h. refl }

  pub written_more : (is : List ℕ) (k v : ℕ) → Written f was is k → k < length is → v ≡ f k → Written f was (set is k v) (k + 1)
  written_more is k v so l e =
      record {
        done = subst (λ x. (j : ℕ) → j < k + 1 → at (set is k x) j ≡ f j) (sym e) (fill_by_more f is k 0 l so.done);
        left = λ j h. let other : j ≢ k = omega arith in get_or-set_other is k j v 0 other ∙ so.left j (omega arith);
      }

  pub written_all : (is : List ℕ) (k n : ℕ) → Written f was is k → length is ≡ n → n ≤ k → is ≡ each n f
  written_all is k n so e l = fill_by_all f is n 0 e (λ j h. so.done j (omega arith))

  -- the places from `start` to `end` are written at once
  pub written_between : (is part : List ℕ) (start end n : ℕ) (h : ℕ → ℕ) → Written f was is start → end ≡ start + n → end ≤ length is
      → part ≡ each n h → ((i : ℕ) → i < n → h i ≡ f (start + i)) → Written f was (put_mid start (end - start) is part) end
  written_between is part start end n h so wide room value what = record { done = λ j l. at_new j ∙ go j l (cases_lt j start); left = λ j l. at_new j ∙ after j l }
    where
      rest : List ℕ
      rest = drop (end - start) (drop start is)

      at_new : (j : ℕ) → at (put_mid start (end - start) is part) j ≡ at (take start is ++ (each n h ++ rest)) j
      at_new j = ap (λ ys. at (take start is ++ (ys ++ rest)) j) value

      front : length (take start is) ≡ start
      front = length-take-le start is (omega arith)

      go : (j : ℕ) → j < end → (j < start) ⊎ (start ≤ j) → at (take start is ++ (each n h ++ rest)) j ≡ f j
      go j l (inl lt) = get_or_append_left (take start is) (each n h ++ rest) 0 j (omega (arith, front)) ∙ get_or-take start is j 0 lt ∙ so.done j lt
      go j l (inr le) =
          let i = j - start in
          let inside : i < n = omega arith in
          let there : start + i ≡ j = omega arith in
          get_or-append_right (take start is) (each n h ++ rest) start j 0 front le
          ∙ get_or_append_left (each n h) rest 0 i (omega (arith, length_each n h))
          ∙ at_each n h i inside
          ∙ what i inside
          ∙ ap f there

      after : (j : ℕ) → end ≤ j → at (take start is ++ (each n h ++ rest)) j ≡ at was j
      after j l =
          let i = j - start in
          let k = end - start in
          let past : start + (k + (i - n)) ≡ j = omega arith in
          get_or-append_right (take start is) (each n h ++ rest) start j 0 front (omega arith)
          ∙ get_or-append_right (each n h) rest n i 0 (length_each n h) (omega arith)
          ∙ get_or-drop k (drop start is) (i - n) 0
          ∙ get_or-drop start is (k + (i - n)) 0
          ∙ ap (at is) past
          ∙ so.left j (omega arith)

  -- what a place that is still to be written had
  pub written_at : (is : List ℕ) (start n j : ℕ) → Written f was is start → j < n → at (take n (drop start is)) j ≡ at was (start + j)
  written_at is start n j so l = at_piece n start is j l ∙ so.left (start + j) (omega arith)
