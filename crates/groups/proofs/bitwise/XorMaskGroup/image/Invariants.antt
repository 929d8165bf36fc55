use Rattle.std.proofs.Common.{◌≡◌}
use Rattle.groups.specs.Bitwise.{picked}
use Rattle.groups.proofs.bitwise.XorMaskGroup.image.Given as goal

abbrev pub invariant-loop-i : goal.invariant-loop-i
invariant-loop-i l = l.sum ≡ picked l.i l.row l.a
