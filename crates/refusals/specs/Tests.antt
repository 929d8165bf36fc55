-- Tests in their order, and the refusal of the first that fails.
use Rattle.std.specs.Prelude.{◌≡◌, ℕ, Bool, true, false, List, [], ◌∷◌, Some, None, Ok, Err, Option, Result}
use Rattle.refusals.specs.declared.Refusal.{Refusal}

-- refused if the test fails
abbrev pub unless : Bool → Refusal → Option Refusal
unless true r = None
unless false r = Some r

-- refused with the offset that was found, if one was
abbrev pub found : (ℕ → Refusal) → Option ℕ → Option Refusal
found why None = None
found why (Some o) = Some (why o)

-- the first of two
abbrev pub before : Option Refusal → Option Refusal → Option Refusal
before None r = r
before (Some r) s = Some r

-- the first of all
abbrev pub first : List (Option Refusal) → Option Refusal
first [] = None
first (t ∷ ts) = before t (first ts)

-- a call refuses with what the tests find, and where they find nothing its answer has the property
abbrev pub Tested : {T : Type 0} → Option Refusal → Result T Refusal → (T → Type 0) → Type 0
Tested tests (Ok x) P = (tests ≡ None) × P x
Tested tests (Err r) P = tests ≡ Some r
