use Rattle.std.proofs.Common.{◌≡◌, ◌+◌, ◌-◌, [], ◌++◌, length, get_or, take, drop, sym, ap, ◌∙◌, ap₂, arith}
use Rattle.std.proofs.lemmas.List.{drop-drop, take_rest}
use Rattle.model.specs.Net.{inputs, look_total}
use Rattle.model.specs.Deal.{owned, own_masks}
use Rattle.circuits.specs.Circuits.{net}
use Rattle.dealer.specs.Parts.{blocks}
use Rattle.dealer.proofs.Dealt.{part_dealt, masks_below, masks_front, put_end}
use Rattle.dealer.proofs.parts.write_part.Goals as goal

pub invariant_of-masked-clause-codes : goal.invariant_of-masked-clause-codes
invariant_of-masked-clause-codes g c =
    let over = c.args.over.now in
    masks_below (g.G.MaskGroup.means over.group.now) (net over.circuit.now) c.args.tape.now (g.met.G.MaskGroup.lawful over.group.now) over.circuit.now.valid _ _ _ c.requires.ready
    c.args.masks.now c.requires.masks

pub returns : goal.returns
returns g c =
    let over = c.args.over.now in
    let G = g.G.MaskGroup.means over.group.now in
    let N = net over.circuit.now in
    let tape = c.args.tape.now in
    let h = c.args.party in
    let i = c.input_count-inputs.result in
    let l = c.from.result in
    let ms = c.args.masks.now in
    let part = c.copy_own.new.part in
    let own = length part - c.column_count.result in
    let count : own ≡ owned h N.owners = omega (arith, c.requires.ready.part, c.column_count.ensures.is) in
    let front = ap (take (inputs N)) c.requires.masks ∙ masks_front G N tape (g.met.G.MaskGroup.lawful over.group.now) over.circuit.now.valid _ _ _ c.requires.ready in
    let mine = ap (λ n. take n part) (count ∙ ap (owned h) (sym c.owners.ensures)) ∙ c.copy_own.ensures
    ∙ ap₂ (λ os n. own_masks h os (take n ms)) c.owners.ensures c.input_count-inputs.ensures.is ∙ ap (own_masks h N.owners) front in
    let rest = take_rest tape (i + l) ∙ ap₂ (λ a b. drop (a + b) tape) c.input_count-inputs.ensures.is (c.from.ensures ∙ c.look_count.ensures.is) ∙ sym (drop-drop (look_total N) (inputs N) tape) in
    let block = c.write_block.ensures ∙ ap₂ (λ ms d. get_or (blocks G N ms d) h []) c.requires.masks rest in
    put_end own part c.write_block.new.block ∙ ap₂ (λ xs ys. xs ++ ys) mine block ∙ sym (part_dealt G N tape h)
