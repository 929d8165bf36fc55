use Rattle.std.proofs.Common.{◌≡◌, ◌<◌, ◌^◌, eqb, arith, rules}
use Rattle.std.specs.List.{count_by}
use Rattle.model.specs.Deal.{owned}
use Rattle.model.proofs.Counts.{tally_all}
use Rattle.dealer.proofs.Owned.{owned_count}
use Rattle.dealer.proofs.lengths.owned.Goals as goal

pub sum-requires-clause-fits : goal.sum-requires-clause-fits
sum-requires-clause-fits c =
    let h = c.args.party in
    let os = c.args.owners.now in
    let few : count_by (λ o. eqb o h) os < 2 ^ 64 = omega (arith, owned_count h os, tally_all (λ o. eqb o h) os) in
    search (rules, few)

pub returns-clause-within : goal.returns-clause-within
returns-clause-within c =
    let h = c.args.party in
    let os = c.args.owners.now in
    let is : c.sum.result ≡ owned h os = search (rules, owned_count) in
    omega (arith, is, tally_all (λ o. eqb o h) os)
