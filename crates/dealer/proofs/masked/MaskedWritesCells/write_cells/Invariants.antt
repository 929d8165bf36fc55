use Rattle.groups.specs.Group.{sub}
use Rattle.model.specs.Words.{at}
use Rattle.model.specs.Deal.{cell}
use Rattle.circuits.specs.Circuits.{net}
use Rattle.circuits.specs.Looked.{lookup_of}
use Rattle.dealer.proofs.Places.{Written}
use Rattle.dealer.proofs.masked.MaskedWritesCells.write_cells.Given as goal

abbrev pub invariant-loop-j : goal.invariant-loop-j
invariant-loop-j g l =
    let over = l.self.over.now in
    let G = g.G.MaskGroup.means over.group.now in
    Written (λ j. sub G (cell G (net over.circuit.now) l.self.masks.now (lookup_of l.look) j) (at l.initial.cells j)) l.initial.cells l.cells l.j
