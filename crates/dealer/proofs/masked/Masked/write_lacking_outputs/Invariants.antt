use Rattle.groups.specs.Group.{sub}
use Rattle.model.specs.Words.{at}
use Rattle.circuits.specs.Circuits.{net}
use Rattle.dealer.proofs.Places.{Written}
use Rattle.dealer.proofs.masked.Masked.write_lacking_outputs.Given as goal

abbrev pub invariant-loop-i : goal.invariant-loop-i
invariant-loop-i g l =
    let over = l.self.over.now in
    let outs = (net over.circuit.now).outputs in
    let places = l.initial.places in
    Written (λ i. sub (g.G.MaskGroup.means over.group.now) (at l.self.masks.now (at outs i)) (at places i)) places l.places l.i
