use Rattle.std.proofs.Common.{◌≡◌}
use Rattle.files.specs.Lists.{Extends}
use Rattle.files.proofs.list.BoundedList.extend.Given as goal

-- what the iterator has given so far is at the list's end
abbrev pub invariant-loop-x : goal.invariant-loop-x
invariant-loop-x g l =
    (goal.iterator-loop-x g).can_next l.x-iterator × (goal.iterator-loop-x g).is_finite l.x-iterator
    × Extends l.fn.self.places.now l.fn.self.len l.self.places.now l.self.len l.yielded
    × (l.self.places.ghost_name ≡ l.fn.self.places.ghost_name)
