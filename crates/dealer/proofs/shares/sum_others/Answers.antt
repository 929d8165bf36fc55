use Rattle.std.proofs.Common.{length, ap, ◌∙◌, arith, rules}
use Rattle.std.proofs.lemmas.List.FromFn.{fill_by_all}
use Rattle.model.specs.Words.{at}
use Rattle.dealer.proofs.Pieces.{summed, summing_more, summing_all, summing_zeros}
use Rattle.dealer.proofs.shares.sum_others.Goals as goal

pub loop-other-preserved : goal.loop-other-preserved
loop-other-preserved g c =
    let n = length c.fill.new.self in
    let block = c.loop-other.block in
    let x = c.in-Some.other.now in
    let G = g.G.MaskGroup.means c.args.group.now in
    summing_more G n block _ _ _ _ _ x _ c.loop-other.invariant (omega (arith, c.requires, c.fill.ensures.len))
    c.in-Some.ensures.steps.0 c.in-Some.ensures.steps.1.0 c.in-Some.ensures.steps.1.1
    (fill_by_all (λ k. G.add (at block k) (at x k)) c.change_each.new.places n 0 (omega arith) (λ k l. let e = c.change_each.ensures k (omega arith) in search rules))

pub returns : goal.returns
returns g c =
    let G = g.G.MaskGroup.means c.args.group.now in
    let zeros = c.fill.new.self in
    summing_all G (length zeros) c.loop-other.block _ _ _ c.loop-other.invariant c.in-None.ensures.steps.1.0 (omega arith)
    ∙ ap (λ n. summed G n zeros c.args.others.now) c.fill.ensures.len
    ∙ summing_zeros G (length c.args.block.now) zeros c.args.others.now (c.fill.ensures.after (λ y e. e))
