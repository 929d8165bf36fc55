-- What a shift makes of a party's part, from the masks of all wires and the differences by which they are to move.
use Rattle.std.specs.Prelude.{ℕ, ◌+◌, List, ◌++◌, length}
use Rattle.groups.specs.Group.{Group, sub}
use Rattle.model.specs.Words.{at, each}
use Rattle.model.specs.Net.{Net}
use Rattle.model.specs.Deal.{columns, owed_at, owned, own_masks}

-- each wire's mask and its difference, added
abbrev pub moved_masks : Group → List ℕ → List ℕ → List ℕ
moved_masks G masks differences = each (length masks) (λ w. G.add (at masks w) (at differences w))

-- a share of column k gains what is owed there under the moved masks, less what is owed under the masks
abbrev pub shifted_share : Group → Net → List ℕ → List ℕ → ℕ → ℕ → ℕ
shifted_share G net masks differences share k = G.add share (sub G (owed_at G net (moved_masks G masks differences) k) (owed_at G net masks k))

-- the own input masks: the i-th gains the i-th of the own differences
abbrev pub shifted_masks : Group → Net → ℕ → List ℕ → List ℕ → List ℕ
shifted_masks G net h differences part = each (owned h net.owners) (λ i. G.add (at part i) (at (own_masks h net.owners differences) i))

-- the own block, which stands after the own masks
abbrev pub shifted_block : Group → Net → ℕ → List ℕ → List ℕ → List ℕ → List ℕ
shifted_block G net h masks differences part =
    each (columns net) (λ k. shifted_share G net masks differences (at part (owned h net.owners + k)) k)

-- the part of party h, shifted
unfoldable pub shifted_part : Group → Net → ℕ → List ℕ → List ℕ → List ℕ → List ℕ
shifted_part G net h masks differences part = shifted_masks G net h differences part ++ shifted_block G net h masks differences part
