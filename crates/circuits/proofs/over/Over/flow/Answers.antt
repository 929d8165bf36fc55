use Rattle.std.proofs.Common.{◌≡◌, ◌+◌, length, ap, ◌∙◌, sym, arith, take}
use Rattle.std.proofs.lemmas.Bool.{eq-eqb, cond-true}
use Rattle.model.specs.Net.{inputs, flow}
use Rattle.model.specs.Net.{wires as all_wires}
use Rattle.model.specs.Words.{mark}
use Rattle.circuits.specs.Circuits.{net}
use Rattle.circuits.proofs.Gates.{gate_count, grow_more, grow_all, operands, mark_is}
use Rattle.circuits.proofs.over.Over.flow.Goals as goal

pub step-number-requires : goal.step-number-requires
step-number-requires g c =
    let N = net c.args.self.now.circuit.now in
    let gates = c.gates-gate-items.result.now in
    let meant = c.gates-gate-items.ensures.meant in
    let read =
    operands N gates c.loop-k.wires (c.input_count-inputs.result + c.loop-k.k) c.loop-k.k meant c.args.self.now.circuit.now.valid.wired
    c.loop-k-test.true (omega (arith, c.input_count-inputs.ensures.is))
    (omega (arith, gate_count N gates meant, c.input_count-inputs.ensures.is, c.wire_count.ensures.is)) in
    record { first = read.0; second = read.1 }

pub loop-k-preserved : goal.loop-k-preserved
loop-k-preserved g c =
    let G = g.G.MaskGroup.means c.args.self.now.group.now in
    let N = net c.args.self.now.circuit.now in
    let R = g.R.Rules.means c.args.rules.now in
    let gates = c.gates-gate-items.result.now in
    let k = c.loop-k.k in
    let n = c.input_count-inputs.result + k in
    let l = c.loop-k.ordinal in
    let one = mark_is c.is_look.result in
    let look = c.from-ordinal.ensures ∙ one.0 ∙ ap mark c.is_look.ensures in (
      omega (arith, c.loop-k.invariant.0, c.from-ordinal.ensures, one.1),
      grow_more G N R gates c.loop-k.wires n k l (c.input_count-inputs.result + (k + 1)) (l + c.from-ordinal.result) (flow G N R (take (inputs N) c.args.wires.now)) c.step-number.result
          c.loop-k.invariant.1 c.loop-k-test.true
          (omega (arith, gate_count N gates c.gates-gate-items.ensures.meant, c.input_count-inputs.ensures.is, c.wire_count.ensures.is))
          c.step-number.ensures (omega arith) (ap (λ m. l + m) look),
    )

pub returns : goal.returns
returns g c =
    let G = g.G.MaskGroup.means c.args.self.now.group.now in
    let N = net c.args.self.now.circuit.now in
    let R = g.R.Rules.means c.args.rules.now in
    let gates = c.gates-gate-items.result.now in
    let all = flow G N R (take (inputs N) c.args.wires.now) in
    let whole : length c.args.wires.now ≡ all_wires N = omega (arith, c.if-wires-wire_count.false, c.wire_count.ensures.is) in
    grow_all G N R gates c.loop-k.wires (c.input_count-inputs.result + c.loop-k.k) c.loop-k.k c.loop-k.ordinal all c.loop-k.invariant.1 c.loop-k-test.false
    (omega (arith, gate_count N gates c.gates-gate-items.ensures.meant, c.input_count-inputs.ensures.is))
    ∙ sym (cond-true _ all c.args.wires.now (eq-eqb (length c.args.wires.now) (all_wires N) whole))
