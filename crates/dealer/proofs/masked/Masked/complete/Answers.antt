use Rattle.std.proofs.Common.{length, arith}
use Rattle.circuits.specs.Circuits.{net}
use Rattle.dealer.proofs.ByParty.{last_lacks}
use Rattle.dealer.proofs.masked.Masked.complete.Goals as goal

pub sum_others-requires : goal.sum_others-requires
sum_others-requires g c = omega (arith, c.requires.places, c.args.self.now.over.now.circuit.now.valid.counted)

pub returns : goal.returns
returns g c =
    let over = c.args.self.now.over.now in
    last_lacks (g.G.MaskGroup.means over.group.now) (net over.circuit.now) over.circuit.now.valid c.args.self.now.masks.now c.args.dealt.now c.sum_others.new.block c.write_lacking.new.block
    (length c.args.block.now) c.requires.dealt c.requires.places c.sum_others.ensures c.write_lacking.ensures
