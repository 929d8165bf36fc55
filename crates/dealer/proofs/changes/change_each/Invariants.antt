use Rattle.std.proofs.Common.{ℕ, ◌<◌, ◌≤◌, ◌≡◌}
use Rattle.model.specs.Words.{at}
use Rattle.dealer.proofs.changes.change_each.Given as goal

abbrev pub invariant-loop-k : goal.invariant-loop-k
invariant-loop-k g l =
    goal.F-IsAlwaysCallable g l.change
    × ((k : ℕ) → k < l.k → goal.F-post g l.change (at l.initial.places k) (at l.numbers k) (at l.places k))
    × ((k : ℕ) → l.k ≤ k → at l.places k ≡ at l.initial.places k)
