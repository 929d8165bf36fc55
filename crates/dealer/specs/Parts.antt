-- What PART tests, in its order, and how it refuses.
use Rattle.std.specs.Prelude.{◌≡◌, ℕ, ◌-◌, ◌<◌, List, [], ◌∷◌, ◌++◌, length, Option, ◌==◌}
use Rattle.refusals.specs.declared.Refusal.{Refusal}
use Rattle.refusals.specs.declared.Refusal.TheVariants.{Counts, Length, NotCode}
use Rattle.refusals.specs.Tests.{unless, first}
use Rattle.groups.specs.Group.{Group, sub}
use Rattle.groups.specs.Tested.{are_codes}
use Rattle.groups.specs.Total.{total}
use Rattle.model.specs.Words.{at, each, Below}
use Rattle.model.specs.Net.{Net, wires}
use Rattle.model.specs.Deal.{columns, column, owed, part_length}
use Rattle.model.specs.Tape.{pieces, tape_length}
use Rattle.dealer.specs.Lengths.{party_fault}

-- The group is of the circuit's size; h is a party; the tape is as long as it should be, and there is a place for the mask
-- of each wire and one for each number of the part; the tape's numbers are codes.
abbrev pub part_fault : Group → Net → List ℕ → ℕ → ℕ → ℕ → Option Refusal
part_fault G net tape h mask_places part_places =
    first
    (unless (G.size == net.size) Counts ∷ party_fault net h ∷ unless (length tape == tape_length net) Length
    ∷ unless (mask_places == wires net) Length ∷ unless (part_places == part_length net h) Length ∷ unless (are_codes net.size tape) NotCode ∷ [])

-- What a call that passes the tests may count on.
pub record Ready (G : Group) (net : Net) (tape : List ℕ) (h mask_places part_places : ℕ) : Type 0 where
  pub size : G.size ≡ net.size
  pub party : h < net.parties
  pub given : length tape ≡ tape_length net
  pub masks : mask_places ≡ wires net
  pub part : part_places ≡ part_length net h
  pub codes : Below net.size tape

-- the last block: what the blocks in front lack of what is owed, m being the masks
abbrev pub last_block : Group → Net → List ℕ → List (List ℕ) → List ℕ
last_block G net m front = each (columns net) (λ k. sub G (at (owed G net m) k) (total G (column front k)))

-- the blocks of all parties, all but the last as they stand one after another
abbrev pub blocks : Group → Net → List ℕ → List ℕ → List (List ℕ)
blocks G net m dealt =
    let front = pieces (net.parties - 1) (columns net) dealt in
    front ++ last_block G net m front ∷ []
