-- Sums of lists.
use Rattle.std.specs.Prelude.{◌≡◌, ℕ, ◌<◌, List, ◌∷◌, ◌++◌, map, length, replicate, fold, slice_index, slice_set}
use mathlib.Core.List.{zip_with}
use Rattle.groups.specs.Group.{Group, Codes}

-- 0, and then each number of the list added in turn
abbrev pub total : Group → List ℕ → ℕ
total G xs = fold G.add 0 xs

-- what follows for lists of codes from the laws of a group
pub record Sums (G : Group) : Type 0 where
  pub total_code : (xs : List ℕ) → Codes G xs → total G xs < G.size
  pub total_cons : (x : ℕ) (xs : List ℕ) → x < G.size → Codes G xs → total G (x ∷ xs) ≡ G.add x (total G xs)
  pub total_append : (xs ys : List ℕ) → Codes G xs → Codes G ys → total G (xs ++ ys) ≡ G.add (total G xs) (total G ys)
  pub total_zeros : (n : ℕ) → total G (replicate n 0) ≡ 0
  pub total_pairs : (xs ys : List ℕ) → Codes G xs → Codes G ys → length xs ≡ length ys → total G (zip_with G.add xs ys) ≡ G.add (total G xs) (total G ys)
  pub total_add_at : (xs : List ℕ) (i m : ℕ) → Codes G xs → i < length xs → m < G.size → total G (slice_set xs i (G.add (slice_index xs i) m)) ≡ G.add (total G xs) m
  pub image_total : (row xs : List ℕ) → Codes G row → Codes G xs → G.image row (total G xs) ≡ total G (map (G.image row) xs)
