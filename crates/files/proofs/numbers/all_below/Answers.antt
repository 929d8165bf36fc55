use Rattle.std.proofs.Common.{◌≡◌, ◌+◌, ◌*◌, leb, map, Some, option_map, sym, ap, ◌∙◌, rules}
use borrow.Author.Tests.{tests}
use Rattle.std.proofs.lemmas.Iterator.{YieldsList-from_slice}
use Rattle.std.proofs.lemmas.Iterator.Search.{position_from_yields_List}
use Rattle.std.specs.List.{position}
use Rattle.files.specs.Faults.{beyond}
use Rattle.files.proofs.Limits.{beyond_at}
use Rattle.files.proofs.numbers.all_below.Given.{Over}
use Rattle.files.proofs.numbers.all_below.Goals.{After-position}
use Rattle.files.proofs.numbers.all_below.Goals as goal

-- where the first number stands that is not below the limit
found : (g : Over) (c : After-position g)
    → beyond g.N.Number.WIDTH c.args.start c.args.high (map g.N.Number.number c.args.numbers.now) ≡ option_map (λ k. c.args.start + g.N.Number.WIDTH * k) c.position.result
found g c =
    let test = λ (x : g.row.N.Denot). leb c.args.high (g.N.Number.number x) in
    let place : c.position.result ≡ position test c.args.numbers.now =
    position_from_yields_List test _ _ c.position.result c.position.ensures.ran (YieldsList-from_slice c.args.numbers.now (cc)) (λ x b q k. search (rules, tests))
    in
    beyond_at g.N.Number.number g.N.Number.WIDTH c.args.start c.args.high c.args.numbers.now ∙ ap (option_map (λ k. c.args.start + g.N.Number.WIDTH * k)) (sym place)

pub returns-in-None : goal.returns-in-None
returns-in-None g c =
    sym (found g (goal.at.returns-in-None g c).After-position ∙ ap (option_map (λ k. c.args.start + g.N.Number.WIDTH * k)) c.in-None.is)

pub returns-in-Some : goal.returns-in-Some
returns-in-Some g c =
    ap (λ w. Some (c.args.start + w * c.in-Some.k)) c.WIDTH.ensures
    ∙ sym (found g (goal.at.returns-in-Some g c).After-position ∙ ap (option_map (λ k. c.args.start + g.N.Number.WIDTH * k)) c.in-Some.is)
