use Rattle.std.proofs.Common.{◌≡◌, sym, ◌∙◌, refl, subst, rules, tests}
use Rattle.std.proofs.lemmas.Fn.{fold_over, slice_gives, fronts}
use Rattle.groups.specs.Tested.{are_codes}
use Rattle.groups.proofs.Passing.{are_codes_push, codes_below}
use Rattle.groups.proofs.codes.are_codes.Goals as goal

pub returns : goal.returns
returns c =
    let q = c.args.size in
    let is : c.fold.result ≡ are_codes q c.args.numbers.now =
    subst (λ xs. c.fold.result ≡ are_codes q xs) c.iter.ensures.rest
    (fold_over fronts (λ y. y.now) _ (λ ys b. b ≡ are_codes q ys) _ (λ ys a x b f' so k. let more = are_codes_push q ys x.now in search (rules, tests)) _ _ _ _ (slice_gives c.iter.result) refl c.fold.ensures.ran) in
    record { is = is; codes = λ passed. codes_below q c.args.numbers.now (sym is ∙ passed) }
