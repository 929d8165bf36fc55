-- The pieces that a tape is cut into, and a block to which they are added.
use Rattle.std.proofs.Common.{replicate, fold, ◌≡◌, ℕ, zero, suc, ◌+◌, ◌*◌, ◌/◌, ◌%◌, ◌<◌, List, [], ◌∷◌, ◌++◌, length, take, drop, sym, refl, ap, ◌∙◌, ap₂, suc-mul, zero-mul, arith}
use Rattle.std.proofs.lemmas.List.{drop-drop, take_at, drop_at, length-append, get_or-replicate}
use Rattle.std.proofs.lemmas.List.FromFn.{fill_by_all}
use Rattle.std.proofs.lemmas.Nat.{div-mul-add}
use Rattle.groups.specs.Group.{Group}
use Rattle.groups.specs.Total.{total}
use Rattle.model.specs.Words.{at, each}
use Rattle.model.specs.Deal.{block, column}
use Rattle.model.specs.Tape.{pieces}
use Rattle.model.proofs.Listed.{at_each}
use Rattle.dealer.proofs.Places.{each_same}

pub pieces_length : (m n : ℕ) (xs : List ℕ) → length (pieces m n xs) ≡ m
unfolding pieces
pieces_length zero n xs = refl
pieces_length (suc m) n xs = ap suc (pieces_length m n (drop n xs))

pub piece_is : (m n : ℕ) (xs : List ℕ) (p : ℕ) → p < m → block (pieces m n xs) p ≡ take n (drop (p * n) xs)
unfolding pieces
piece_is zero n xs p l = absurd (omega arith)
piece_is (suc m) n xs zero l = ap (λ k. take n (drop k xs)) (sym (zero-mul n))
piece_is (suc m) n xs (suc p) l =
    let more : n + p * n ≡ suc p * n = omega (arith, suc-mul p n) in
    piece_is m n (drop n xs) p (omega arith) ∙ ap (take n) (drop-drop (p * n) n xs ∙ ap (λ k. drop k xs) more)

-- all pieces of n numbers
abbrev pub cut : ℕ → List ℕ → List (List ℕ)
cut n xs = pieces (length xs / n) n xs

cut_none : (n : ℕ) (xs : List ℕ) → length xs < n → cut n xs ≡ []
unfolding pieces
cut_none n xs l =
    let none : length xs / n ≡ 0 = ap (λ k. k / n) (omega (arith, zero-mul n)) ∙ div-mul-add 0 n (length xs) l in
    ap (λ m. pieces m n xs) none

cut_more : (n : ℕ) (b rest : List ℕ) → 0 < n → length b ≡ n → cut n (b ++ rest) ≡ b ∷ cut n rest
unfolding pieces
cut_more n b rest some long =
    let r = length rest in
    let whole : length (b ++ rest) ≡ suc (r / n) * n + r % n = length-append b rest ∙ omega (arith, suc-mul (r / n) n) in
    let count : length (b ++ rest) / n ≡ suc (r / n) = ap (λ k. k / n) whole ∙ div-mul-add (suc (r / n)) n (r % n) (omega arith) in
    ap (λ m. pieces m n (b ++ rest)) count
    ∙ ap₂ (λ (x : List ℕ) (xs : List (List ℕ)). x ∷ xs) (take_at b rest n long) (ap (pieces (r / n) n) (drop_at b rest n long))

-- sums to which the pieces that are left are added
abbrev pub summed : Group → ℕ → List ℕ → List ℕ → List ℕ
summed G n b rest = each n (λ k. fold G.add (at b k) (column (cut n rest) k))

-- Blocks are added one by one: `b` has the sums so far, `rest` is not yet added, and in all they come to `whole`.
pub record Summing (G : Group) (n : ℕ) (b rest : List ℕ) (size : ℕ) (whole : List ℕ) : Type 0 where
  pub width : size ≡ n
  pub is : summed G n b rest ≡ whole

module _ (G : Group) where
  pub summing_more : (n : ℕ) (b whole rest new : List ℕ) (size size' : ℕ) (x all : List ℕ) → Summing G n b all size whole → 0 < n → size' ≡ size → all ≡ x ++ rest → length x ≡ size
      → new ≡ each n (λ k. G.add (at b k) (at x k)) → Summing G n new rest size' whole
  summing_more n b whole rest new size size' x all so some same split long value =
      let wide_x : length x ≡ n = long ∙ so.width in
      let cut_all : cut n all ≡ x ∷ cut n rest = ap (cut n) split ∙ cut_more n x rest some wide_x in
      record {
        width = same ∙ so.width;
        is =
            each_same n _ _ (λ k h.
            let at_new : at new k ≡ G.add (at b k) (at x k) = ap (λ xs. at xs k) value ∙ at_each n _ k h in
            ap (λ m. fold G.add m (column (cut n rest) k)) at_new ∙ sym (ap (λ bs. fold G.add (at b k) (column bs k)) cut_all))
            ∙ so.is;
      }

  pub summing_all : (n : ℕ) (b whole rest : List ℕ) (size : ℕ) → Summing G n b rest size whole → length rest < size → length b ≡ n → b ≡ whole
  summing_all n b whole rest size so few wide =
      let none = cut_none n rest (omega (arith, so.width)) in
      fill_by_all (λ k. fold G.add (at b k) (column (cut n rest) k)) b n 0 wide (λ k h. sym (ap (λ bs. fold G.add (at b k) (column bs k)) none)) ∙ so.is

  -- from nothing on, they come to the totals
  pub summing_zeros : (n : ℕ) (b others : List ℕ) → b ≡ replicate n 0 → summed G n b others ≡ each n (λ k. total G (column (cut n others) k))
  summing_zeros n b others e =
      each_same n _ _ (λ k h. ap (λ x. fold G.add x (column (cut n others) k)) (ap (λ xs. at xs k) e ∙ get_or-replicate n k 0 0 h))
