-- What the clear run of a circuit tests, in its order, and how it refuses.
use Rattle.std.specs.Prelude.{◌≡◌, ℕ, List, [], ◌∷◌, length, Option, ◌==◌}
use Rattle.refusals.specs.declared.Refusal.{Refusal}
use Rattle.refusals.specs.declared.Refusal.TheVariants.{Counts, Length, NotCode}
use Rattle.refusals.specs.Tests.{unless, first}
use Rattle.groups.specs.Group.{Group}
use Rattle.groups.specs.Tested.{are_codes}
use Rattle.model.specs.Words.{Below}
use Rattle.model.specs.Net.{Net, inputs, wires}

-- The group is of the circuit's size; there is a value for each input, a place for each wire and one for each output; the
-- values are codes.
abbrev pub run_fault : Group → Net → List ℕ → ℕ → ℕ → Option Refusal
run_fault G net values wire_places output_places =
    first
    (unless (G.size == net.size) Counts ∷ unless (length values == inputs net) Length ∷ unless (wire_places == wires net) Length
    ∷ unless (output_places == length net.outputs) Length ∷ unless (are_codes net.size values) NotCode ∷ [])

-- What a call that passes the tests may count on.
pub record Ready (G : Group) (net : Net) (values : List ℕ) (wire_places output_places : ℕ) : Type 0 where
  pub size : G.size ≡ net.size
  pub given : length values ≡ inputs net
  pub places : wire_places ≡ wires net
  pub outlets : output_places ≡ length net.outputs
  pub codes : Below net.size values
