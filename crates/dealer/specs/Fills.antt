-- A tape made of random bytes.
use Rattle.std.specs.Prelude.{ℕ, ◌%◌, List, map, Option, ◌==◌}
use Rattle.refusals.specs.declared.Refusal.{Refusal}
use Rattle.refusals.specs.declared.Refusal.TheVariants.{Length}
use Rattle.refusals.specs.Tests.{unless}

-- the remainder of each byte modulo q
abbrev pub filled : ℕ → List ℕ → List ℕ
filled q bytes = map (λ b. b % q) bytes

-- there are as many bytes as places
abbrev pub fill_fault : ℕ → ℕ → Option Refusal
fill_fault bytes places = unless (bytes == places) Length
