use Rattle.std.proofs.Common.{◌≡◌, map, take}
use Rattle.model.specs.Words.{at}
use Rattle.circuits.proofs.circuit.Circuit.gather_outputs.Given as goal

abbrev pub invariant-loop-i : goal.invariant-loop-i
invariant-loop-i l = take l.i l.places ≡ map (at l.wires) (take l.i l.self.outputs.now)
