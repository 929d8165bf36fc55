-- The test whether a list holds codes.
use Rattle.std.proofs.Common.{◌≡◌, ℕ, zero, suc, ◌<◌, Bool, true, false, ◌&&◌, ltb, List, [], ◌∷◌, ◌++◌, length, get_or, refl, ap, ◌∙◌, arith}
use Rattle.std.proofs.lemmas.Bool.{ltb-true, and_parts}
use Rattle.groups.specs.Tested.{are_codes}

pub are_codes_append : (q : ℕ) (xs ys : List ℕ) → are_codes q (xs ++ ys) ≡ (are_codes q xs && are_codes q ys)
are_codes_append q [] ys = refl
are_codes_append q (x ∷ xs) ys = go (ltb x q) (are_codes q xs) (are_codes q ys) (are_codes_append q xs ys)
  where
    go : (b d e : Bool) {c : Bool} → c ≡ (d && e) → (b && c) ≡ ((b && d) && e)
    go true d e p = p
    go false d e p = refl

and_true : (b : Bool) → (b && true) ≡ b
and_true true = refl
and_true false = refl

-- one number more
pub are_codes_push : (q : ℕ) (xs : List ℕ) (x : ℕ) → are_codes q (xs ++ x ∷ []) ≡ (are_codes q xs && ltb x q)
are_codes_push q xs x = are_codes_append q xs (x ∷ []) ∙ ap (λ b. are_codes q xs && b) (and_true (ltb x q))

-- what passes is codes
pub codes_below : (q : ℕ) (xs : List ℕ) → are_codes q xs ≡ true → (k : ℕ) → k < length xs → get_or xs k 0 < q
codes_below q [] e k h = absurd (omega arith)
codes_below q (x ∷ xs) e zero h = ltb-true x q (and_parts (ltb x q) (are_codes q xs) e).0
codes_below q (x ∷ xs) e (suc k) h = codes_below q xs (and_parts (ltb x q) (are_codes q xs) e).1 k (omega arith)
