use Rattle.std.proofs.Common.{List, Option, option_map, subst, ap}
use Rattle.std.specs.Iterator.{YieldsFirst, AlwaysYields}
use Rattle.model.specs.Net as net
use Rattle.files.specs.declared.entries.Entries.{Entries}
use Rattle.files.specs.Gates.{gate_of, entries_in}
use Rattle.files.specs.Format.{gate_entries}
use Rattle.files.proofs.Filling.{records_entries}
use Rattle.files.proofs.Testing.{entries_come}
use Rattle.files.proofs.section.Section.test_gates.Goals as goal

pub returns : goal.returns
returns c =
    let bytes = c.args.self.now.bytes.now in
    let rest = λ (s : Entries). entries_in s.left.now in
    let all = entries_come rest c.new.result (entries_in bytes) (ap entries_in c.new.ensures) in
    let come = subst (λ (es : List (Option net.Gate)). AlwaysYields (YieldsFirst rest) (option_map gate_of) c.new.result es) (records_entries (gate_entries bytes)) all in
    c.test_entries.ensures (gate_entries bytes) come
