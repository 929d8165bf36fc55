use Rattle.std.proofs.Common.{◌≡◌, ◌%◌, sym, ap, ◌∙◌, subst, arith, rules}
use Rattle.groups.specs.Group.{Codes}
use Rattle.model.specs.Words.{at}
use Rattle.dealer.proofs.Remainders.{filled_is, filled_codes}
use Rattle.dealer.proofs.filling.fill.Goals as goal

pub returns-clause-tested : goal.returns-clause-tested
returns-clause-tested g c =
    let G = g.G.MaskGroup.means c.args.group.now in
    let bytes = c.args.random.now in
    let is = filled_is G.size bytes c.change_each.new.places (omega arith) (λ k l. let e = c.change_each.ensures k (omega arith) in let so : at c.change_each.new.places k ≡ at bytes k % c.size-size.result = search rules in so ∙ ap (λ q. at bytes k % q) c.size-size.ensures) in
    (search arith, (is, subst (Codes G) (sym is) (filled_codes G (g.met.G.MaskGroup.lawful c.args.group.now) bytes)))
