-- A file that READ accepts, and the circuit that CIRCUIT makes of it and of the places that READ filled.
use Rattle.std.proofs.Common.{◌≡◌, ℕ, ◌+◌, ◌*◌, ◌≤◌, ◌&&◌, eqb, leb, List, [], ◌∷◌, map, length, take, Some, None, Option, sym, refl, ap, ◌∙◌, subst, ap₂, arith}
use Rattle.std.proofs.lemmas.Bool.{eqb-true, leb-true, and_parts}
use Rattle.refusals.specs.declared.Refusal.{Refusal}
use Rattle.refusals.specs.declared.Refusal.TheVariants.{Layout}
use Rattle.refusals.specs.Tests.{unless, before}
use Rattle.model.specs.Words.{mark}
use Rattle.model.specs.Net.{Net, Gate, is_look, Valid}
use Rattle.files.specs.declared.header.Header.{Header}
use Rattle.files.specs.Gates.{gates_of}
use Rattle.files.specs.Format.{header_of, owners_at, tables_at, rows_at, gates_at, outputs_at, offset, len, end_of, section, gate_entries, known, net_in, InFile, Lengths}
use Rattle.files.specs.Faults.{pair_fault, pairs_fault, gate_fault, gates_fault, outputs_fault, fault}
use Rattle.files.proofs.Passed.{both_pass, passed}
use Rattle.circuits.specs.Made.{circuit_net}
use Rattle.circuits.proofs.Kept.{holds, kept}
use Rattle.laws.specs.Laws.{CircuitsHold}

-- gates that passed are all of known kinds
all_known : (h : Header) (o w l : ℕ) (es : List (Option Gate)) → gates_fault h o w l es ≡ None → es ≡ map Some (known es)
all_known h o w l [] e = refl
all_known h o w l (None ∷ es) e = let z : ◌≡◌ {A = ℕ} 0 1 = cc in absurd (omega arith)
all_known h o w l (Some g ∷ es) e =
    ap (λ xs. Some g ∷ xs)
    (all_known h (o + 5) (w + 1) (l + mark (is_look g)) es (both_pass (gate_fault h o w l g) (gates_fault h (o + 5) (w + 1) (l + mark (is_look g)) es) e).1)

-- a pair that passed
placed : (f : List ℕ) (pair soonest expected : ℕ) → pair_fault f pair soonest expected ≡ None → (len f pair ≡ expected) × (soonest ≤ offset f pair)
placed f pair soonest expected e =
    let p = and_parts (eqb (len f pair) expected) (leb soonest (offset f pair)) (holds (eqb (len f pair) expected && leb soonest (offset f pair)) (Layout pair) e) in
    (eqb-true (len f pair) expected p.0, leb-true soonest (offset f pair) p.1)

-- the sections of a file whose pairs passed
sections : (f : List ℕ) → pairs_fault f ≡ None → InFile f × Lengths f
sections f e =
    let h = header_of f in
    let t1 = pair_fault f tables_at (end_of f owners_at) (h.tables * h.size) in
    let t2 = pair_fault f rows_at (end_of f tables_at) (8 * h.rows) in
    let t3 = pair_fault f gates_at (end_of f rows_at) (5 * h.gates) in
    let t4 = pair_fault f outputs_at (end_of f gates_at) (2 * h.outputs) in
    let t5 = unless (leb (end_of f outputs_at) (length f)) (Layout outputs_at) in
    let a = both_pass (pair_fault f owners_at 54 h.inputs) (before t1 (before t2 (before t3 (before t4 (before t5 None))))) e in
    let b = both_pass t1 (before t2 (before t3 (before t4 (before t5 None)))) a.1 in
    let c = both_pass t2 (before t3 (before t4 (before t5 None))) b.1 in
    let d = both_pass t3 (before t4 (before t5 None)) c.1 in
    let g = both_pass t4 (before t5 None) d.1 in
    let p0 = placed f owners_at 54 h.inputs a.0 in
    let p1 = placed f tables_at (end_of f owners_at) (h.tables * h.size) b.0 in
    let p2 = placed f rows_at (end_of f tables_at) (8 * h.rows) c.0 in
    let p3 = placed f gates_at (end_of f rows_at) (5 * h.gates) d.0 in
    let p4 = placed f outputs_at (end_of f gates_at) (2 * h.outputs) g.0 in
    let last = leb-true (end_of f outputs_at) (length f) (holds (leb (end_of f outputs_at) (length f)) (Layout outputs_at) (both_pass t5 None g.1).0) in
    let q4 : end_of f gates_at ≤ length f = omega (arith, p4.1, last) in
    let q3 : end_of f rows_at ≤ length f = omega (arith, p3.1, q4) in
    let q2 : end_of f tables_at ≤ length f = omega (arith, p2.1, q3) in
    let q1 : end_of f owners_at ≤ length f = omega (arith, p1.1, q2) in
    ((q1, q2, q3, q4, last), (p0.0, p1.0, p2.0, p3.0, p4.0))

-- the file's net with other gates and outputs
abbrev with_places : List ℕ → List Gate → List ℕ → Net
with_places f gs os =
    record { size = (header_of f).size; parties = (header_of f).parties; owners = section f owners_at; tables = section f tables_at; rows = section f rows_at; gates = gs; outputs = os }

none_then : (t rest : Option Refusal) → t ≡ None → rest ≡ None → before t rest ≡ None
none_then t rest e r = ap (λ x. before x rest) e ∙ r

pub circuits_hold : CircuitsHold
circuits_hold f gates outputs accepted gates_are_lem outputs_are_lem =
    let h = header_of f in
    let t = passed f (length gates) (length outputs) accepted in
    let entries = gate_entries (section f gates_at) in
    let some = all_known h (offset f gates_at) h.inputs 0 entries t.gates in
    let gates_pass : gates_fault h (offset f gates_at) h.inputs 0 (map Some (gates_of (take h.gates gates))) ≡ None =
    ap (gates_fault h (offset f gates_at) h.inputs 0) (ap (map Some) gates_are_lem ∙ sym some) ∙ t.gates in
    let outputs_pass : outputs_fault h (offset f outputs_at) (take h.outputs outputs) ≡ None =
    ap (outputs_fault h (offset f outputs_at)) outputs_are_lem ∙ t.outputs in
    let lie = sections f t.pairs in
    let same : circuit_net f gates outputs ≡ net_in f = ap₂ (with_places f) gates_are_lem outputs_are_lem in
    record {
      valid = subst Valid same (kept f gates outputs accepted lie.0 lie.1 gates_pass outputs_pass);
      accepted =
          none_then (fault f (length gates) (length outputs)) _ accepted
          (none_then (gates_fault h (offset f gates_at) h.inputs 0 (map Some (gates_of (take h.gates gates)))) _ gates_pass
          (none_then (outputs_fault h (offset f outputs_at) (take h.outputs outputs)) None outputs_pass refl));
      same = same;
    }
