use Rattle.std.proofs.Common.{◌≡◌, ◌+◌, ◌-◌, ◌++◌, length, take, drop, sym, ap, ◌∙◌, ap₂, arith}
use Rattle.std.proofs.lemmas.List.{take_at, length-take-le, length-append, length-drop}
use Rattle.std.proofs.lemmas.Bool.{eq-eqb, cond-true}
use Rattle.model.specs.Net.{inputs, wires, look_total, flow}
use Rattle.model.specs.Deal.{masking}
use Rattle.circuits.specs.Circuits.{net}
use Rattle.dealer.proofs.Dealt.{masks_dealt}
use Rattle.dealer.proofs.parts.write_masks.Goals as goal

pub returns : goal.returns
returns g c =
    let over = c.args.over.now in
    let G = g.G.MaskGroup.means over.group.now in
    let N = net over.circuit.now in
    let tape = c.args.tape.now in
    let ms = c.args.masks.now in
    let i = c.input_count-inputs.result in
    let l = c.from.result in
    let first : i ≡ inputs N = c.input_count-inputs.ensures.is in
    let count : (i + l) - i ≡ look_total N = omega (arith, c.from.ensures, c.look_count.ensures.is) in
    let copied = c.copy_from_slice.new.self in
    let given : copied ≡ take (inputs N) tape = c.copy_from_slice.ensures.after ∙ ap (λ n. take n tape) first in
    let long : length copied ≡ inputs N = ap length given ∙ length-take-le (inputs N) tape (omega (arith, c.requires.tape)) in
    let buffer = copied ++ drop i ms in
    let whole : length buffer ≡ wires N = length-append copied (drop i ms) ∙ omega (arith, length-drop i ms, c.requires.places) in
    c.flow.ensures ∙ cond-true _ _ buffer (eq-eqb (length buffer) (wires N) whole)
    ∙ ap₂ (λ ls ins. flow G N (masking ls) ins) (ap₂ (λ n s. take n (drop s tape)) count first) (take_at copied (drop i ms) (inputs N) long ∙ given)
    ∙ sym (masks_dealt G N tape)
