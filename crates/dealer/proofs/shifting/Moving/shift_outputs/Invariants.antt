use Rattle.groups.specs.Group.{sub}
use Rattle.model.specs.Words.{at}
use Rattle.model.specs.Shifted.{moved_masks}
use Rattle.circuits.specs.Circuits.{net}
use Rattle.dealer.proofs.Places.{Written}
use Rattle.dealer.proofs.shifting.Moving.shift_outputs.Given as goal

abbrev pub invariant-loop-i : goal.invariant-loop-i
invariant-loop-i g l =
    let over = l.self.was.over.now in
    let G = g.G.MaskGroup.means over.group.now in
    let ms = l.self.was.masks.now in
    let outs = (net over.circuit.now).outputs in
    let places = l.initial.places in
    Written (λ i. G.add (at places i) (sub G (at (moved_masks G ms l.self.differences.now) (at outs i)) (at ms (at outs i)))) places l.places l.i
