use Rattle.std.proofs.Common.{arith}
use Rattle.dealer.proofs.Places.{written_all}
use Rattle.dealer.proofs.shifting.MovingWritesCells.write_cells.Goals as goal

pub returns : goal.returns
returns g c =
    written_all _ c.args.cells.now c.loop-j.cells c.loop-j.j _ c.loop-j.invariant (omega (arith, c.requires.places)) (omega (arith, c.requires.places))
