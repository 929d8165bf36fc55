-- Which numbers are codes, as a test.
use Rattle.std.specs.Prelude.{ℕ, Bool, true, ◌&&◌, List, [], ◌∷◌, nat_lt}

-- every number of the list is below q
abbrev pub are_codes : ℕ → List ℕ → Bool
are_codes q [] = true
are_codes q (x ∷ xs) = nat_lt x q && are_codes q xs
