use Rattle.std.proofs.Common.{◌<◌, ap, ◌∙◌, arith}
use Rattle.circuits.specs.Circuits.{net}
use Rattle.dealer.proofs.ByParty.{piece_found, piece_lacks}
use Rattle.dealer.proofs.masked.Masked.write_block.Goals as goal

pub returns-in-Some : goal.returns-in-Some
returns-in-Some g c =
    let over = c.args.self.now.over.now in
    let run = c.in-Some.ensures.runs in
    let whole = ap (λ i. i.rest.now) run.1 ∙ c.chunks_exact.ensures.rest in
    let width = ap (λ i. i.size) run.1 ∙ c.chunks_exact.ensures.size in
    let some : 0 < run.0.from.size = omega (arith, c.requires.places, over.circuit.now.valid.counted) in
    let found = rw run.2.1 at ((c.chunks_exact.ensures.runs run.0 run.0.seen some).2 c.from.result) in
    c.copy_from_slice.ensures.after
    ∙ piece_found (g.G.MaskGroup.means over.group.now) (net over.circuit.now) c.args.self.now.masks.now c.args.dealt.now c.args.party c.from.result run.0.from.size run.0.from.rest.now
    whole (width ∙ c.requires.places) c.from.ensures some c.requires.dealt c.in-Some.piece.now found.1 found.2.0

pub returns-in-None : goal.returns-in-None
returns-in-None g c =
    let over = c.args.self.now.over.now in
    let run = c.in-None.ensures.runs in
    let whole = ap (λ i. i.rest.now) run.1 ∙ c.chunks_exact.ensures.rest in
    let width = ap (λ i. i.size) run.1 ∙ c.chunks_exact.ensures.size in
    let some : 0 < run.0.from.size = omega (arith, c.requires.places, over.circuit.now.valid.counted) in
    c.complete.ensures
    ∙ piece_lacks (g.G.MaskGroup.means over.group.now) (net over.circuit.now) c.args.self.now.masks.now c.args.dealt.now c.args.party c.from.result run.0.from.size run.0.from.rest.now
    whole (width ∙ c.requires.places) c.from.ensures some c.requires.dealt c.requires.party run.0.len ((c.chunks_exact.ensures.runs run.0 run.0.seen some).1 run.2.0) run.2.1
