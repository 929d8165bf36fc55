-- What SHIFT tests, in its order, and how it refuses.
use Rattle.std.specs.Prelude.{◌≡◌, ℕ, ◌<◌, List, [], ◌∷◌, length, Option, ◌==◌}
use Rattle.refusals.specs.declared.Refusal.{Refusal}
use Rattle.refusals.specs.declared.Refusal.TheVariants.{Counts, Length, NotCode}
use Rattle.refusals.specs.Tests.{unless, first}
use Rattle.groups.specs.Group.{Group}
use Rattle.model.specs.Words.{Below}
use Rattle.model.specs.Net.{Net, wires}
use Rattle.model.specs.Deal.{part_length}
use Rattle.dealer.specs.Lengths.{party_fault}
use Rattle.groups.specs.Tested.{are_codes}

-- The group is of the circuit's size; h is a party; there are a mask and a difference for each wire, and the part and the
-- places for the shifted one are as long as a part; all numbers are codes.
abbrev pub shift_fault : Group → Net → ℕ → List ℕ → List ℕ → List ℕ → ℕ → Option Refusal
shift_fault G net h masks differences part places =
    first
    (unless (G.size == net.size) Counts ∷ party_fault net h ∷ unless (length masks == wires net) Length
    ∷ unless (length differences == wires net) Length ∷ unless (length part == part_length net h) Length
    ∷ unless (places == part_length net h) Length ∷ unless (are_codes net.size masks) NotCode
    ∷ unless (are_codes net.size differences) NotCode ∷ unless (are_codes net.size part) NotCode ∷ [])

-- What a call that passes the tests may count on.
pub record Shiftable (G : Group) (net : Net) (h : ℕ) (masks differences part : List ℕ) (places : ℕ) : Type 0 where
  pub size : G.size ≡ net.size
  pub party : h < net.parties
  pub masked : length masks ≡ wires net
  pub moved : length differences ≡ wires net
  pub whole : length part ≡ part_length net h
  pub room : places ≡ part_length net h
  pub masks_codes : Below net.size masks
  pub differences_codes : Below net.size differences
  pub part_codes : Below net.size part
