-- A file that holds a valid net is accepted, and gives that net. Assumes nothing.
use Rattle.std.proofs.Common.{◌≡◌, ℕ, ◌+◌, ◌*◌, ◌≤◌, List, length, None, sym, refl, ap, ◌∙◌, arith}
use Rattle.std.proofs.lemmas.Bool.{le-leb, eq-eqb, and_from}
use Rattle.refusals.specs.declared.Refusal.TheVariants.{Layout, Limit, Places, Code, Absent}
use Rattle.model.specs.Net.{Net, Valid, inputs, table_count, row_count}
use Rattle.files.specs.Format.{two, header_of, owners_at, tables_at, rows_at, gates_at, outputs_at, offset, len, end_of, section, gate_entries, known, numbers, net_in}
use Rattle.files.specs.Faults.{count_fault, counts_fault, pair_fault, pairs_fault, places_fault, sections_fault, gates_fault, fault}
use Rattle.laws.specs.Written.{Gaps, counts_of, gate_bytes, two_bytes, gate_section, output_section, owners_start, tables_start, rows_start, gates_start, outputs_start}
use Rattle.laws.proofs.Tests.{passes, both, none_beyond}
use Rattle.laws.proofs.Bytes.{numbers_read, length_each}
use Rattle.laws.proofs.Gates.{Narrow, gates_read, gates_accepted}
use Rattle.laws.proofs.Sections.{Placed, section_read, ends}

-- header, directory and sections of a file are those of a net
pub record Holds (f : List ℕ) (net : Net) (gaps : Gaps) : Type 0 where
  pub counts : header_of f ≡ counts_of net
  pub owners : Placed f owners_at (owners_start net gaps) net.owners
  pub tables : Placed f tables_at (tables_start net gaps) net.tables
  pub rows : Placed f rows_at (rows_start net gaps) net.rows
  pub gates : Placed f gates_at (gates_start net gaps) (gate_section net)
  pub outputs : Placed f outputs_at (outputs_start net gaps) (output_section net)

count_pass : (f : List ℕ) (k low high n : ℕ) → two f k ≡ n → low ≤ n → n ≤ high → count_fault f k low high ≡ None
count_pass f k low high n e l h =
    passes (Limit k) (and_from _ _ (le-leb low (two f k) (omega arith)) (le-leb (two f k) high (omega arith)))

pair_pass : (f : List ℕ) (pair o soonest n : ℕ) (bytes : List ℕ) → Placed f pair o bytes → soonest ≤ o → n ≡ length bytes → pair_fault f pair soonest n ≡ None
pair_pass f pair o soonest n bytes p l e =
    passes (Layout pair)
    (and_from _ _ (eq-eqb (len f pair) n (p.measures ∙ sym e)) (le-leb soonest (offset f pair) (omega (arith, p.begins))))

module _ (f : List ℕ) (net : Net) (gaps : Gaps) (v : Valid net) (h : Holds f net gaps) where
  counts_pass : counts_fault f ≡ None
  counts_pass =
      both _ (count_pass f 0 2 256 net.size (ap (λ c. c.size) h.counts) v.sized.0 v.sized.1)
      (both _ (count_pass f 2 2 8 net.parties (ap (λ c. c.parties) h.counts) v.sized.2 v.sized.3)
      (both _ (count_pass f 4 1 160 (inputs net) (ap (λ c. c.inputs) h.counts) v.counted.0 v.counted.1)
      (both _ (count_pass f 6 0 4096 (length net.gates) (ap (λ c. c.gates) h.counts) (omega arith) v.counted.2)
      (both _ (count_pass f 8 0 16 (table_count net) (ap (λ c. c.tables) h.counts) (omega arith) v.whole.1)
      (both _ (count_pass f 10 0 64 (row_count net) (ap (λ c. c.rows) h.counts) (omega arith) v.whole.3)
      (both _ (count_pass f 12 1 64 (length net.outputs) (ap (λ c. c.outputs) h.counts) v.counted.3 v.counted.4) refl))))))

  pairs_pass : pairs_fault f ≡ None
  pairs_pass =
      let owners_end : end_of f owners_at ≤ tables_start net gaps = ends f owners_at _ _ h.owners _ (omega arith) in
      let tables_end : end_of f tables_at ≤ rows_start net gaps = ends f tables_at _ _ h.tables _ (omega arith) in
      let rows_end : end_of f rows_at ≤ gates_start net gaps = ends f rows_at _ _ h.rows _ (omega arith) in
      let gates_end : end_of f gates_at ≤ outputs_start net gaps = ends f gates_at _ _ h.gates _ (omega arith) in
      let outputs_end : end_of f outputs_at ≤ length f = ends f outputs_at _ _ h.outputs _ h.outputs.part.within in
      both _ (pair_pass f owners_at _ 54 _ _ h.owners (omega arith) (ap (λ c. c.inputs) h.counts))
      (both _ (pair_pass f tables_at _ (end_of f owners_at) _ _ h.tables owners_end (ap (λ c. c.tables * c.size) h.counts ∙ sym v.whole.0))
      (both _ (pair_pass f rows_at _ (end_of f tables_at) _ _ h.rows tables_end (ap (λ c. 8 * c.rows) h.counts ∙ sym v.whole.2))
      (both _
      (pair_pass f gates_at _ (end_of f rows_at) _ _ h.gates rows_end (ap (λ c. 5 * c.gates) h.counts ∙ sym (length_each gate_bytes 5 (λ g. refl) net.gates)))
      (both _
      (pair_pass f outputs_at _ (end_of f gates_at) _ _ h.outputs gates_end (ap (λ c. 2 * c.outputs) h.counts ∙ sym (length_each two_bytes 2 (λ n. refl) net.outputs)))
      (both _ (passes (Layout outputs_at) (le-leb (end_of f outputs_at) (length f) outputs_end)) refl)))))

  places_pass : (gate_places output_places : ℕ) → length net.gates ≤ gate_places → length net.outputs ≤ output_places → places_fault (header_of f) gate_places output_places ≡ None
  places_pass gate_places output_places g o =
      both _ (passes (Places 6) (le-leb (two f 6) gate_places (omega (arith, ap (λ c. c.gates) h.counts))))
      (both _ (passes (Places 12) (le-leb (two f 12) output_places (omega (arith, ap (λ c. c.outputs) h.counts)))) refl)

  narrow : Narrow (counts_of net) 65536
  narrow = (omega arith, omega arith, omega arith)

  few_wires : inputs net + length net.gates ≤ 65536
  few_wires = omega arith

  outputs_are_lem : numbers (section f outputs_at) ≡ net.outputs
  outputs_are_lem =
      ap numbers (section_read f outputs_at _ _ h.outputs) ∙ numbers_read net.outputs (λ k b. omega (arith, v.named.1 k b))

  gates_are_lem : known (gate_entries (section f gates_at)) ≡ net.gates
  gates_are_lem =
      ap (λ bs. known (gate_entries bs)) (section_read f gates_at _ _ h.gates)
      ∙ gates_read (counts_of net) (inputs net) net.gates narrow few_wires v.wired

  sections_pass : sections_fault f ≡ None
  sections_pass =
      let gates = section_read f gates_at _ _ h.gates in
      both _ (none_beyond Absent 1 (offset f owners_at) (ap (λ c. c.parties) h.counts) (section_read f owners_at _ _ h.owners) v.named.0)
      (both _ (none_beyond Code 1 (offset f tables_at) (ap (λ c. c.size) h.counts) (section_read f tables_at _ _ h.tables) v.coded.0)
      (both _ (none_beyond Code 1 (offset f rows_at) (ap (λ c. c.size) h.counts) (section_read f rows_at _ _ h.rows) v.coded.1)
      (both _
      ((λ i. gates_fault (h.counts i) (offset f gates_at) (h.counts i).inputs 0 (gate_entries (gates i)))
      ∙ gates_accepted (counts_of net) (inputs net) net.gates narrow few_wires v.wired (offset f gates_at) v.few)
      (both _ (none_beyond Absent 2 (offset f outputs_at) (ap (λ c. c.inputs + c.gates) h.counts) outputs_are_lem v.named.1) refl))))

  pub accepted : (gate_places output_places : ℕ) → length net.gates ≤ gate_places → length net.outputs ≤ output_places → fault f gate_places output_places ≡ None
  unfolding fault
  accepted gate_places output_places g o =
      both _ (passes (Layout (length f)) (le-leb 54 (length f) (omega (arith, h.outputs.part.within))))
      (both _ counts_pass (both _ pairs_pass (both _ (places_pass gate_places output_places g o) (both _ sections_pass refl))))

  pub circuit : net_in f ≡ net
  circuit =
      let owners = section_read f owners_at _ _ h.owners in
      let tables = section_read f tables_at _ _ h.tables in
      let rows = section_read f rows_at _ _ h.rows in
      λ i.
      record {
        size = (h.counts i).size;
        parties = (h.counts i).parties;
        owners = owners i;
        tables = tables i;
        rows = rows i;
        gates = gates_are_lem i;
        outputs = outputs_are_lem i;
      }
