use Rattle.std.proofs.Common.{◌≡◌, ◌+◌, ◌≤◌, take, drop}
use Rattle.model.specs.Net.{inputs, grow, flow}
use Rattle.files.specs.Gates.{gates_of}
use Rattle.circuits.specs.Circuits.{net}
use Rattle.circuits.proofs.over.Over.flow.Given as goal

-- what is left gives the flow
abbrev pub invariant-loop-k : goal.invariant-loop-k
invariant-loop-k g l =
    let G = g.G.MaskGroup.means l.self.group.now in
    let N = net l.self.circuit.now in
    let R = g.R.Rules.means l.rules in
    (l.ordinal ≤ l.k) × (grow G N R l.ordinal (take (l.inputs + l.k) l.wires) (gates_of (drop l.k l.gate-items)) ≡ flow G N R (take (inputs N) l.initial.wires))
