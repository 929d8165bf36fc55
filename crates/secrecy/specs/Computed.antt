-- The shift of a deal, as its own party computes it from its part.
use Rattle.std.specs.Prelude.{◌≡◌, ℕ, ◌<◌}
use Rattle.groups.specs.Group.{Group, Laws}
use Rattle.model.specs.Net.{Net, Valid}
use Rattle.model.specs.Deal.{Deal, Lawful, masks, part}
use Rattle.model.specs.Shifted.{shifted_part}
use Rattle.secrecy.specs.Evaluation.{Log, Sane, difference, shift}

-- the own part of the shifted deal is the own part of the deal, shifted by the difference that follows the gates
abbrev pub ShiftComputed : Type 0
ShiftComputed =
    (G : Group) → Laws G → (net : Net) → Valid net → G.size ≡ net.size → (h : ℕ) → h < net.parties → (log : Log) → Sane G net h log → (d : Deal) → Lawful G net d
    → part net h (shift G net h log d) ≡ shifted_part G net h (masks G net d) (difference G net h log d) (part net h d)
