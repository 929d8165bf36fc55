-- The first number that is not below a limit, by its place in a list, and two-byte numbers in chunks.
use Rattle.std.proofs.Common.{◌≡◌, ℕ, zero, suc, ◌+◌, ◌*◌, ◌/◌, ◌<◌, ◌≤◌, Bool, true, false, cond, not, ltb, leb, List, [], ◌∷◌, map, length, slice_index, Some, option_map, sym, refl, ap, ◌∙◌, arith}
use Rattle.std.specs.List.{position, position_from}
use Rattle.std.specs.Simd.{first_chunks}
use Rattle.std.proofs.lemmas.Bool.Decides.{nat_tests}
use Rattle.std.proofs.lemmas.Iterator.Adapters.{position_from-zero}
use Rattle.files.specs.Format.{joined, numbers}
use Rattle.files.specs.Faults.{beyond}

module _ {X : Type 0} (f : X → ℕ) (w o high : ℕ) where
  step : (i : ℕ) (xs : List X) (b c : Bool) → c ≡ not b → beyond w (o + w * (i + 1)) high (map f xs) ≡ option_map (λ k. o + w * k) (position_from (λ x. leb high (f x)) (i + 1) xs)
      → cond b (beyond w (o + w * i + w) high (map f xs)) (Some (o + w * i)) ≡ option_map (λ k. o + w * k) (cond c (Some i) (position_from (λ x. leb high (f x)) (i + 1) xs))
  step i xs true false n e = let m : o + w * i + w ≡ o + w * (i + 1) = omega arith in ap (λ m. beyond w m high (map f xs)) m ∙ e
  step i xs true true n e = absurd (cc)
  step i xs false true n e = refl
  step i xs false false n e = absurd (cc)

  from : (i : ℕ) (xs : List X) → beyond w (o + w * i) high (map f xs) ≡ option_map (λ k. o + w * k) (position_from (λ x. leb high (f x)) i xs)
  from i [] = refl
  from i (x ∷ xs) = step i xs (ltb (f x) high) (leb high (f x)) (grind (arith, nat_tests)) (from (i + 1) xs)

  pub beyond_at : (xs : List X) → beyond w o high (map f xs) ≡ option_map (λ k. o + w * k) (position (λ x. leb high (f x)) xs)
  beyond_at xs =
      let e : o ≡ o + w * 0 = omega arith in
      ap (λ n. beyond w n high (map f xs)) e ∙ from 0 xs ∙ ap (option_map (λ k. o + w * k)) (sym (position_from-zero (λ x. leb high (f x)) xs))

pub numbers_none : (xs : List ℕ) → length xs < 2 → numbers xs ≡ []
numbers_none [] h = refl
numbers_none (a ∷ []) h = refl
numbers_none (a ∷ b ∷ rest) h = absurd (omega arith)

in_chunks : (k : ℕ) (xs : List ℕ) → 2 * k ≤ length xs → length xs < 2 * k + 2 → map (λ n. joined (slice_index n 0) (slice_index n 1)) (first_chunks 2 k xs) ≡ numbers xs
in_chunks zero xs low high = sym (numbers_none xs high)
in_chunks (suc k) [] low high = absurd (omega arith)
in_chunks (suc k) (a ∷ []) low high = absurd (omega arith)
in_chunks (suc k) (a ∷ b ∷ rest) low high = ap (λ r. joined a b ∷ r) (in_chunks k rest (omega arith) (omega arith))

-- two bytes at a time, as many pairs as there are
pub numbers_in_chunks : (xs : List ℕ) → map (λ n. joined (slice_index n 0) (slice_index n 1)) (first_chunks 2 (length xs / 2) xs) ≡ numbers xs
numbers_in_chunks xs = in_chunks (length xs / 2) xs (omega arith) (omega arith)

pub numbers_few : (xs : List ℕ) → 2 * length (numbers xs) ≤ length xs
numbers_few [] = omega arith
numbers_few (a ∷ []) = omega arith
numbers_few (a ∷ b ∷ rest) = let h = numbers_few rest in omega arith
