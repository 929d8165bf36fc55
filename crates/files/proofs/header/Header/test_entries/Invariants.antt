use Rattle.std.proofs.Common.{◌+◌, ◌≤◌, List, Option, option_map}
use Rattle.std.specs.Iterator.{AlwaysYields}
use Rattle.std.specs.Iterator.Adapters.{enumerate_source, enumerate_count}
use Rattle.model.specs.Net as net
use Rattle.files.specs.Gates.{gate_of}
use Rattle.files.proofs.Testing.{Testing}
use Rattle.files.proofs.header.Header.test_entries.Given as goal

-- however the entries come, those that are left give the answer
abbrev pub invariant-loop-k : goal.invariant-loop-k
invariant-loop-k g l =
    (goal.iterator-loop-k g).can_next l.k-iterator × (goal.iterator-loop-k g).is_finite l.k-iterator
    × (enumerate_count l.k-iterator + (goal.iterator-loop-k g).remaining l.k-iterator ≤ (goal.iterator-loop-k g).remaining l.initial.k-iterator)
    × (l.looks ≤ 240)
    × ((es : List (Option net.Gate)) → AlwaysYields g.I.Iterator.next_gives (option_map gate_of) l.fn.entries es
    → Testing l.self l.start g.I.Iterator.next_gives es (enumerate_source l.k-iterator) (enumerate_count l.k-iterator) l.looks)
