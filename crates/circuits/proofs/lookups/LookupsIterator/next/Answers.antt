use Rattle.std.proofs.Common.{◌≡◌, ◌<◌, List, ◌∷◌, length, subst, sym, ap, ◌∙◌, arith}
use Rattle.std.specs.Iterator.{YieldsFirstBy}
use Rattle.circuits.specs.Looked.{lookup_of}
use Rattle.circuits.proofs.Looked.{no_next, next_is}
use Rattle.circuits.proofs.lookups.LookupsIterator.next.Goals as goal

pub returns-in_err-before-clause-steps : goal.returns-in_err-before-clause-steps
returns-in_err-before-clause-steps c =
    let none = sym c.self.view_is ∙ no_next c.self.inside.gates.now c.self.inside.wire c.in_err-before.ensures in
    subst (λ r. YieldsFirstBy lookup_of (λ rest. rest) c.args.self.now r c.args.self.now) (sym c.from_residual.ensures) (none, none)

pub returns-clause-steps : goal.returns-clause-steps
returns-clause-steps c = sym c.self.view_is ∙ next_is c.self.inside.gates.now c.self.inside.wire c.in_ok-before.before c.in_ok-before.ensures

-- the others are fewer than all
fewer : {X : Type 0} {xs ys : List X} {x : X} → xs ≡ x ∷ ys → length ys < length xs
fewer e = let long = ap length e in omega arith

pub returns-clause-goes : goal.returns-clause-goes
returns-clause-goes c = record { on = λ _. (tt, tt, fewer (returns-clause-steps c)); keeps = tt; rests = λ _. tt }
