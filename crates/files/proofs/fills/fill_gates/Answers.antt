use Rattle.std.proofs.Common.{length, ap, rules, arith}
use borrow.Author.Tests.{tests}
use Rattle.std.proofs.lemmas.Iterator.Consumers.{YieldsList-from_first, YieldsList-from_filter_map, YieldsList-at}
use Rattle.files.specs.declared.entries.Entries.{Entries}
use Rattle.files.specs.Gates.{gate_of, entries_in}
use Rattle.files.specs.Format.{gate_entries, known}
use Rattle.files.proofs.Filling.{filled, records_known, known_in_few}
use Rattle.files.proofs.fills.fill_gates.Goals as goal

pub returns : goal.returns
returns c =
    let bytes = c.args.bytes.now in
    let f =
    filled
    (YieldsList-from_filter_map _ (λ e. e)
    (YieldsList-at c.filter_map.ensures.source (YieldsList-from_first (λ x. x) (λ (s : Entries). entries_in s.left.now) (entries_in bytes) (ap entries_in c.new.ensures)))
    c.filter_map.ensures.closure (λ x r q k. search (rules, tests)))
    gate_of (known (gate_entries bytes)) _ _ _ _ c.extend.result c.extend.ensures.adds c.new-list.ensures.len (records_known (gate_entries bytes))
    (omega (arith, known_in_few bytes, ap length c.new-list.ensures.kept))
    in
    record { filled = search rules; spare = search rules }
