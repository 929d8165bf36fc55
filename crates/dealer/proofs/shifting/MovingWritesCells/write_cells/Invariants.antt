use Rattle.groups.specs.Group.{sub}
use Rattle.model.specs.Words.{at}
use Rattle.model.specs.Deal.{cell}
use Rattle.model.specs.Shifted.{moved_masks}
use Rattle.circuits.specs.Circuits.{net}
use Rattle.circuits.specs.Looked.{lookup_of}
use Rattle.dealer.proofs.Places.{Written}
use Rattle.dealer.proofs.shifting.MovingWritesCells.write_cells.Given as goal

abbrev pub invariant-loop-j : goal.invariant-loop-j
invariant-loop-j g l =
    let over = l.self.was.over.now in
    let G = g.G.MaskGroup.means over.group.now in
    let N = net over.circuit.now in
    let ms = l.self.was.masks.now in
    let look = lookup_of l.look in
    Written (λ j. G.add (at l.initial.cells j) (sub G (cell G N (moved_masks G ms l.self.differences.now) look j) (cell G N ms look j))) l.initial.cells l.cells l.j
