use Rattle.std.proofs.Common.{◌≡◌, ◌≤◌, ◌++◌, take, drop}
use Rattle.model.specs.Deal.{owned, own_masks}
use Rattle.dealer.proofs.own.copy_own.Given as goal

abbrev pub invariant-loop-i : goal.invariant-loop-i
invariant-loop-i l =
    (l.slot ≡ owned l.party (take l.i l.owners)) × (l.slot ≤ l.i)
    × (take l.slot l.part ++ own_masks l.party (drop l.i l.owners) (drop l.i l.masks) ≡ own_masks l.party l.owners l.masks)
