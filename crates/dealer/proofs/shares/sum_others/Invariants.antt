use Rattle.std.proofs.Common.{length}
use Rattle.dealer.proofs.Pieces.{summed, Summing}
use Rattle.dealer.proofs.shares.sum_others.Given as goal

abbrev pub invariant-loop-other : goal.invariant-loop-other
invariant-loop-other g l =
    let G = g.G.MaskGroup.means l.group in
    let n = length l.initial.block in
    Summing G n l.block l.other-iterator.rest.now l.other-iterator.size (summed G n l.initial.block l.others)
