use Rattle.std.proofs.Common.{◌≡◌, ℕ, List, Some, map, take, ap, ◌∙◌, subst, rules}
use Rattle.model.specs.Net as net
use Rattle.model.specs.Net.{look_count}
use Rattle.refusals.specs.Tests.{Tested}
use Rattle.files.specs.declared.gate.Gate.{Gate}
use Rattle.files.specs.Gates.{gates_of}
use Rattle.files.specs.Faults.{gates_fault}
use Rattle.files.proofs.Testing.{records_come, known_all}
use Rattle.files.proofs.header.Header.test_gates.Goals as goal

pub returns : goal.returns
returns c =
    let h = c.args.self.now in
    let records = c.front-records.result.now in
    let first = take h.gates c.args.gates.now in
    let At : ℕ → List Gate → List net.Gate → Type 0 =
    λ o gs known. Tested (gates_fault h o h.inputs 0 (map (λ y. Some y) (gates_of gs))) c.test_entries.result (λ n. n ≡ look_count known) in
    let tested = c.test_entries.ensures (map (λ y. Some y) (gates_of records)) (records_come _ (λ f x r q k. search rules) records c.map-entries.result (cc)) in
    let counted = subst (λ (known : List net.Gate). At c.section_start.result records known) (known_all (gates_of records)) tested in
    let here = subst (λ (gs : List Gate). At c.section_start.result gs (gates_of gs)) (c.front-records.ensures.0 ∙ ap (λ n. take n c.args.gates.now) c.from.ensures) counted in
    subst (λ (o : ℕ). At o first (gates_of first)) c.section_start.ensures.0 here
