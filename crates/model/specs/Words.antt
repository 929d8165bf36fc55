-- Words on lists of numbers.
use Rattle.std.specs.Prelude.{ℕ, ◌+◌, ◌<◌, Bool, true, false, List, [], ◌∷◌, map, length, slice_index}
use Rattle.std.specs.List.{range_with_len}

-- the number at place k, and 0 past the end
abbrev pub at : List ℕ → ℕ → ℕ
at xs k = slice_index xs k

-- every number of the list is below q
abbrev pub Below : ℕ → List ℕ → Type 0
Below q xs = (k : ℕ) → k < length xs → at xs k < q

-- 1 for what passes a test, 0 for what does not
abbrev pub mark : Bool → ℕ
mark true = 1
mark false = 0

-- how many elements of a list pass a test
abbrev pub tally : {X : Type 0} → (X → Bool) → List X → ℕ
tally f [] = 0
tally f (x ∷ xs) = mark (f x) + tally f xs

-- f 0, f 1, .., f (n - 1)
abbrev pub each : {X : Type 0} → ℕ → (ℕ → X) → List X
each n f = map f (range_with_len 0 n)
