use Rattle.std.proofs.Common.{◌≡◌, ℕ, map, take, Some, None, sym, ap, ◌∙◌, subst}
use Rattle.files.specs.declared.header.Header.{Header}
use Rattle.model.specs.Net.{Valid, look_count}
use Rattle.files.specs.Gates.{gates_of}
use Rattle.files.specs.Format.{header_of, directory_of, gates_at, outputs_at, offset}
use Rattle.files.specs.Faults.{gates_fault, outputs_fault}
use Rattle.circuits.proofs.Kept.{kept, same_net}
use Rattle.circuits.proofs.circuit.Circuit.new.Goals as goal

pub invariant_of-result : goal.invariant_of-result
invariant_of-result c =
    let f = c.args.file.now in
    let gs = c.args.gates.now in
    let os = c.args.outputs.now in
    let t = c.in_ok-header.ensures in
    let h = c.in_ok-header.field-0.header in
    let counts : h ≡ header_of f = t.1.0.header in
    let pairs : c.in_ok-header.field-0.directory ≡ directory_of f = t.1.0.directory in
    let GatesPass : Header → ℕ → Type 0 = λ x o. gates_fault x o x.inputs 0 (map Some (gates_of (take x.gates gs))) ≡ None in
    let OutputsPass : Header → ℕ → Type 0 = λ x o. outputs_fault x o (take x.outputs os) ≡ None in
    let gates = subst (λ (x : Header). GatesPass x (offset f gates_at)) counts (subst (GatesPass h) (ap (λ d. d.gates.0) pairs) c.in_ok-looks.ensures.0) in
    let outputs = subst (λ (x : Header). OutputsPass x (offset f outputs_at)) counts (subst (OutputsPass h) (ap (λ d. d.outputs.0) pairs) c.in_ok-test_outputs.ensures.0) in
    let v = kept f gs os t.0 t.1.1 t.1.2 gates outputs in
    let front = c.front.ensures.0 ∙ ap (λ n. take n gs) c.from.ensures in
    let first = c.front-2.ensures.0 ∙ ap (λ n. take n os) c.from-2.ensures in
    let same =
    same_net f gs os h c.in_ok-header.field-0.directory _ _ _ _ _ counts pairs c.section_of.ensures c.section_of-2.ensures c.section_of-3.ensures
    front first in
    record {
      valid = subst Valid same v;
      looked = c.in_ok-looks.ensures.1 ∙ ap (λ xs. look_count (gates_of xs)) (sym front);
    }
