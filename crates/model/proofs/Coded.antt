-- The test whether a list holds codes.
use Rattle.std.proofs.Common.{◌≡◌, ℕ, suc, true, ltb, List, [], ◌∷◌, refl, arith}
use Rattle.std.proofs.lemmas.Bool.{and_from, lt-ltb}
use Rattle.model.specs.Words.{Below}
use Rattle.groups.specs.Tested.{are_codes}

pub are_codes_all : (q : ℕ) (xs : List ℕ) → Below q xs → are_codes q xs ≡ true
are_codes_all q [] h = refl
are_codes_all q (x ∷ xs) h =
    and_from (ltb x q) (are_codes q xs) (lt-ltb x q (h 0 (omega arith))) (are_codes_all q xs (λ k l. h (suc k) (omega arith)))
