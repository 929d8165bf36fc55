use Rattle.std.proofs.Common.{length, ap, arith}
use Rattle.dealer.proofs.Places.{written_all}
use Rattle.dealer.proofs.masked.Masked.write_lacking_outputs.Goals as goal

pub returns : goal.returns
returns g c =
    let long = ap length c.outputs-wire-items.ensures in
    written_all _ c.args.places.now c.loop-i.places c.loop-i.i _ c.loop-i.invariant (omega (arith, c.requires)) (omega (arith, c.loop-i-test.false))
