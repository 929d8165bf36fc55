use Rattle.std.proofs.Common.{◌∙◌, ap₂}
use Rattle.model.specs.Deal.{masks, part}
use Rattle.model.specs.Tape.{deal_of}
use Rattle.circuits.specs.Circuits.{net}
use Rattle.dealer.proofs.Dealt.{dealt_lawful}
use Rattle.dealer.proofs.parts.deal_part.Goals as goal

pub returns-clause-tested : goal.returns-clause-tested
returns-clause-tested g c =
    let circuit = c.args.circuit.now in
    let passed = c.in_ok-over.ensures in
    let lawful =
    dealt_lawful (g.G.MaskGroup.means c.args.group.now) (net circuit) c.args.tape.now (g.met.G.MaskGroup.lawful c.args.group.now) circuit.valid _ _ _ passed.1.2 in
    let same = passed.1.0 in
    let here = passed.1.1 in (
      passed.0,
      (
        c.write_masks.ensures ∙ ap₂ (λ p k. masks (g.G.MaskGroup.means p) (net k) (deal_of (g.G.MaskGroup.means p) (net k) c.args.tape.now)) same here,
        c.write_part.ensures ∙ ap₂ (λ p k. part (net k) c.args.party (deal_of (g.G.MaskGroup.means p) (net k) c.args.tape.now)) same here,
        lawful,
      ),
    )
