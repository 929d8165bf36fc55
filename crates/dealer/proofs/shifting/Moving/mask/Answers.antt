use Rattle.std.proofs.Common.{◌<◌, length, sym, ◌∙◌, arith}
use Rattle.circuits.specs.Circuits.{net}
use Rattle.dealer.proofs.Shifts.{moved_at, moved_code}
use Rattle.dealer.proofs.shifting.Moving.mask.Goals as goal

pub returns : goal.returns
returns g c =
    let was = c.args.self.now.was in
    let over = was.over.now in
    let G = g.G.MaskGroup.means over.group.now in
    let ms = was.masks.now in
    let ds = c.args.self.now.differences.now in
    let N = net over.circuit.now in
    let here : c.args.wire < length ms = omega (arith, was.whole, c.requires) in
    let code = moved_code G ms ds (g.met.G.MaskGroup.lawful over.group.now) N.size over.agree was.codes c.args.self.now.codes (omega (arith, was.whole, c.args.self.now.whole)) c.args.wire here in
    record { is = c.add.ensures ∙ sym (moved_at G ms ds c.args.wire here); code = omega (arith, c.add.ensures) }
