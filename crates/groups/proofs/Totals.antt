-- Sums of lists of codes.
use Rattle.std.proofs.Common.{◌≡◌, ℕ, zero, suc, ◌<◌, List, [], ◌∷◌, ◌++◌, map, length, get_or, set, replicate, fold, sym, refl, ap, ◌∙◌, arith}
use mathlib.Core.List.{zip_with}
use Rattle.groups.specs.Group.{Group, Laws, Codes}
use Rattle.groups.specs.Algebra.{Algebra}
use Rattle.groups.specs.Total.{Sums, total}
use Rattle.groups.proofs.Derived.{algebra}
use Rattle.groups.specs.Kept.{codes_head, codes_tail, codes_set}

folded_append : (f : ℕ → ℕ → ℕ) (s : ℕ) (xs ys : List ℕ) → fold f s (xs ++ ys) ≡ fold f (fold f s xs) ys
folded_append f s [] ys = refl
folded_append f s (x ∷ xs) ys = folded_append f (f s x) xs ys

module _ {G : Group} (L : Laws G) where
  known : Algebra G
  known = algebra L

  folded_code : (s : ℕ) (xs : List ℕ) → s < G.size → Codes G xs → fold G.add s xs < G.size
  folded_code s [] hs h = hs
  folded_code s (x ∷ xs) hs h = folded_code (G.add s x) xs (L.add_code s x hs (codes_head G x xs h)) (codes_tail G x xs h)

  total_code : (xs : List ℕ) → Codes G xs → total G xs < G.size
  total_code xs h = folded_code 0 xs known.zero_code h

  -- what a sum starts from is added to the sum from 0
  folded_from : (s : ℕ) (xs : List ℕ) → s < G.size → Codes G xs → fold G.add s xs ≡ G.add s (total G xs)
  folded_from s [] hs h = sym (L.zero_right s hs)
  folded_from s (x ∷ xs) hs h =
      let hx = codes_head G x xs h in
      let rest = codes_tail G x xs h in
      folded_from (G.add s x) xs (L.add_code s x hs hx) rest ∙ L.assoc s x (total G xs) hs hx (total_code xs rest)
      ∙ ap (G.add s) (sym (ap (λ y. fold G.add y xs) (known.zero_left x hx) ∙ folded_from x xs hx rest))

  total_cons : (x : ℕ) (xs : List ℕ) → x < G.size → Codes G xs → total G (x ∷ xs) ≡ G.add x (total G xs)
  total_cons x xs hx h = ap (λ y. fold G.add y xs) (known.zero_left x hx) ∙ folded_from x xs hx h

  total_append : (xs ys : List ℕ) → Codes G xs → Codes G ys → total G (xs ++ ys) ≡ G.add (total G xs) (total G ys)
  total_append xs ys h t = folded_append G.add 0 xs ys ∙ folded_from (total G xs) ys (total_code xs h) t

  total_zeros : (n : ℕ) → total G (replicate n 0) ≡ 0
  total_zeros zero = refl
  total_zeros (suc n) = ap (λ y. fold G.add y (replicate n 0)) (L.zero_right 0 known.zero_code) ∙ total_zeros n

  -- two sums at once
  folded_pairs : (s t : ℕ) (xs ys : List ℕ) → s < G.size → t < G.size → Codes G xs → Codes G ys → length xs ≡ length ys → fold G.add (G.add s t) (zip_with G.add xs ys) ≡ G.add (fold G.add s xs) (fold G.add t ys)
  unfolding zip_with
  folded_pairs s t [] [] hs ht h k e = refl
  folded_pairs s t [] (y ∷ ys) hs ht h k e = absurd (omega arith)
  folded_pairs s t (x ∷ xs) [] hs ht h k e = absurd (omega arith)
  folded_pairs s t (x ∷ xs) (y ∷ ys) hs ht h k e =
      let hx = codes_head G x xs h in
      let hy = codes_head G y ys k in
      ap (λ z. fold G.add z (zip_with G.add xs ys)) (known.swap s t x y hs ht hx hy)
      ∙ folded_pairs (G.add s x) (G.add t y) xs ys (L.add_code s x hs hx) (L.add_code t y ht hy) (codes_tail G x xs h) (codes_tail G y ys k) (omega arith)

  total_pairs : (xs ys : List ℕ) → Codes G xs → Codes G ys → length xs ≡ length ys → total G (zip_with G.add xs ys) ≡ G.add (total G xs) (total G ys)
  total_pairs xs ys h k e =
      ap (λ z. fold G.add z (zip_with G.add xs ys)) (sym (L.zero_right 0 known.zero_code))
      ∙ folded_pairs 0 0 xs ys known.zero_code known.zero_code h k e

  total_add_at : (xs : List ℕ) (i m : ℕ) → Codes G xs → i < length xs → m < G.size → total G (set xs i (G.add (get_or xs i 0) m)) ≡ G.add (total G xs) m
  total_add_at [] i m h l hm = absurd (omega arith)
  total_add_at (x ∷ xs) zero m h l hm =
      let hx = codes_head G x xs h in
      let rest = codes_tail G x xs h in
      let ht = total_code xs rest in
      total_cons (G.add x m) xs (L.add_code x m hx hm) rest ∙ L.assoc x m (total G xs) hx hm ht
      ∙ ap (G.add x) (L.comm m (total G xs) hm ht) ∙ sym (L.assoc x (total G xs) m hx ht hm)
      ∙ ap (λ y. G.add y m) (sym (total_cons x xs hx rest))
  total_add_at (x ∷ xs) (suc i) m h l hm =
      let hx = codes_head G x xs h in
      let rest = codes_tail G x xs h in
      let within : i < length xs = omega arith in
      total_cons x (set xs i (G.add (get_or xs i 0) m)) hx (codes_set G xs i _ rest (L.add_code (get_or xs i 0) m (rest i within) hm))
      ∙ ap (G.add x) (total_add_at xs i m rest within hm)
      ∙ sym (L.assoc x (total G xs) m hx (total_code xs rest) hm) ∙ ap (λ y. G.add y m) (sym (total_cons x xs hx rest))

  module _ (row : List ℕ) (hr : Codes G row) where
    image_folded : (s : ℕ) (xs : List ℕ) → s < G.size → Codes G xs → G.image row (fold G.add s xs) ≡ fold G.add (G.image row s) (map (G.image row) xs)
    image_folded s [] hs h = refl
    image_folded s (x ∷ xs) hs h =
        let hx = codes_head G x xs h in
        image_folded (G.add s x) xs (L.add_code s x hs hx) (codes_tail G x xs h)
        ∙ ap (λ y. fold G.add y (map (G.image row) xs)) (L.image_add row s x hr hs hx)

    image_total : (xs : List ℕ) → Codes G xs → G.image row (total G xs) ≡ total G (map (G.image row) xs)
    image_total xs h =
        image_folded 0 xs known.zero_code h ∙ ap (λ y. fold G.add y (map (G.image row) xs)) (known.image_zero row hr)

  pub sums : Sums G
  sums = record {
    total_code = total_code;
    total_cons = total_cons;
    total_append = total_append;
    total_zeros = total_zeros;
    total_pairs = total_pairs;
    total_add_at = total_add_at;
    image_total = λ row xs hr. image_total row hr xs;
  }
