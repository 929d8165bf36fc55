-- What is done to a list of codes leaves it a list of codes.
use Rattle.std.specs.Prelude.{ℕ, zero, suc, ◌<◌, List, [], ◌∷◌, ◌++◌, map, take, replicate, slice_index, slice_set}
use mathlib.Core.List.{zip_with}
use Rattle.std.proofs.Common.{arith}
use Rattle.groups.specs.Group.{Group, Laws, Codes}

module _ (G : Group) where
  pub codes_none : Codes G []
  codes_none k l = absurd (omega arith)

  pub codes_cons : (x : ℕ) (xs : List ℕ) → x < G.size → Codes G xs → Codes G (x ∷ xs)
  codes_cons x xs hx h zero l = hx
  codes_cons x xs hx h (suc k) l = h k (omega arith)

  pub codes_head : (x : ℕ) (xs : List ℕ) → Codes G (x ∷ xs) → x < G.size
  codes_head x xs h = h 0 (omega arith)

  pub codes_tail : (x : ℕ) (xs : List ℕ) → Codes G (x ∷ xs) → Codes G xs
  codes_tail x xs h k l = h (suc k) (omega arith)

  -- past its end a list reads as 0
  pub codes_read : 0 < G.size → (xs : List ℕ) → Codes G xs → (k : ℕ) → slice_index xs k < G.size
  codes_read p [] h k = p
  codes_read p (x ∷ xs) h zero = codes_head x xs h
  codes_read p (x ∷ xs) h (suc k) = codes_read p xs (codes_tail x xs h) k

  pub codes_append : (xs ys : List ℕ) → Codes G xs → Codes G ys → Codes G (xs ++ ys)
  codes_append [] ys h t = t
  codes_append (x ∷ xs) ys h t = codes_cons x (xs ++ ys) (codes_head x xs h) (codes_append xs ys (codes_tail x xs h) t)

  pub codes_push : (xs : List ℕ) (x : ℕ) → Codes G xs → x < G.size → Codes G (xs ++ (x ∷ []))
  codes_push xs x h hx = codes_append xs (x ∷ []) h (codes_cons x [] hx codes_none)

  pub codes_set : (xs : List ℕ) (i v : ℕ) → Codes G xs → v < G.size → Codes G (slice_set xs i v)
  codes_set [] i v h hv = h
  codes_set (x ∷ xs) zero v h hv = codes_cons v xs hv (codes_tail x xs h)
  codes_set (x ∷ xs) (suc i) v h hv = codes_cons x (slice_set xs i v) (codes_head x xs h) (codes_set xs i v (codes_tail x xs h) hv)

  pub codes_take : (i : ℕ) (xs : List ℕ) → Codes G xs → Codes G (take i xs)
  codes_take zero xs h = codes_none
  codes_take (suc i) [] h = h
  codes_take (suc i) (x ∷ xs) h = codes_cons x (take i xs) (codes_head x xs h) (codes_take i xs (codes_tail x xs h))

  pub codes_zeros : Laws G → (n : ℕ) → Codes G (replicate n 0)
  codes_zeros L zero = codes_none
  codes_zeros L (suc n) = codes_cons 0 (replicate n 0) (omega (arith, L.size_low)) (codes_zeros L n)

  -- the sums of codes that stand at the same place
  pub codes_pairs : Laws G → (xs ys : List ℕ) → Codes G xs → Codes G ys → Codes G (zip_with G.add xs ys)
  unfolding zip_with
  codes_pairs L [] ys h t = codes_none
  codes_pairs L (x ∷ xs) [] h t = codes_none
  codes_pairs L (x ∷ xs) (y ∷ ys) h t =
      codes_cons (G.add x y) (zip_with G.add xs ys) (L.add_code x y (codes_head x xs h) (codes_head y ys t)) (codes_pairs L xs ys (codes_tail x xs h) (codes_tail y ys t))

  -- the images of codes
  pub codes_images : Laws G → (row xs : List ℕ) → Codes G row → Codes G xs → Codes G (map (G.image row) xs)
  codes_images L row [] hr h = h
  codes_images L row (x ∷ xs) hr h =
      codes_cons (G.image row x) (map (G.image row) xs) (L.image_code row x hr (codes_head x xs h)) (codes_images L row xs hr (codes_tail x xs h))
