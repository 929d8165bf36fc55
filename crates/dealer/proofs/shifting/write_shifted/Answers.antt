use Rattle.std.proofs.Common.{◌≡◌, ◌-◌, ◌++◌, length, take, drop, sym, ap, ◌∙◌, arith, rules}
use Rattle.std.proofs.lemmas.List.{length-take-le, take_at}
use Rattle.model.specs.Deal.{owned, own_masks}
use Rattle.std.proofs.lemmas.List.FromFn.{fill_by_all}
use Rattle.model.specs.Words.{at}
use Rattle.circuits.specs.Circuits.{net}
use Rattle.dealer.proofs.Dealt.{put_end}
use Rattle.dealer.proofs.Shifts.{part_shifted}
use Rattle.dealer.proofs.shifting.write_shifted.Goals as goal

pub returns : goal.returns
returns g c =
    let over = c.args.over.now in
    let G = g.G.MaskGroup.means over.group.now in
    let N = net over.circuit.now in
    let h = c.args.party in
    let ds = c.args.differences.now in
    let part = c.args.part.now in
    let own = length part - c.column_count.result in
    let copied = c.copy_own.new.part in
    let front = c.change_each.new.places in
    let block = c.shift_block.new.block in
    let count : own ≡ owned h N.owners = omega (arith, c.requires.whole, c.column_count.ensures.is) in
    let mine : take own copied ≡ own_masks h N.owners ds =
    ap (λ n. take n copied) (count ∙ ap (owned h) (sym c.owners.ensures)) ∙ c.copy_own.ensures ∙ ap (λ os. own_masks h os ds) c.owners.ensures in
    let long : length (take own copied) ≡ own = length-take-le own copied (omega (arith, c.requires.room)) in
    let added = fill_by_all (λ i. G.add (at part i) (at (take own copied) i)) front (length (take own copied)) 0 c.change_each.auto.places (λ i l. let e = c.change_each.ensures i l in search rules) in
    let wide : length front ≡ own = omega arith in
    put_end own (front ++ drop own copied) block ∙ ap (λ xs. xs ++ block) (take_at front (drop own copied) own wide)
    ∙ part_shifted G c.args.masks.now ds N h part (take own copied) front block own (length part - own) count (omega (arith, c.requires.whole)) mine long added c.shift_block.ensures
