-- A reader asks a file for its first 54 bytes and its sections alone. Assumes nothing.
use Rattle.std.proofs.Common.{◌≡◌, ℕ, ◌+◌, ◌-◌, ◌*◌, ◌<◌, ◌≤◌, min, ◌&&◌, eqb, leb, List, [], ◌∷◌, length, take, drop, None, sym, refl, ap, ◌∙◌, ⊎_elim, arith, length-drop, length-take}
use Rattle.std.proofs.lemmas.List.{get_or-take}
use Rattle.std.proofs.lemmas.Bool.{cases_lt, le-leb, lt-leb, eq-eqb, ne_eqb, leb-true, eqb-true, and_parts}
use Rattle.refusals.specs.declared.Refusal.TheVariants.{Layout, Limit, Code, Absent}
use Rattle.model.specs.Words.{at}
use Rattle.refusals.specs.Tests.{unless, found, before, first}
use Rattle.files.specs.Format.{joined, two, four, header_of, owners_at, tables_at, rows_at, gates_at, outputs_at, offset, len, end_of, gate_entries, known, numbers, net_in}
use Rattle.files.specs.Faults.{length_fault, count_fault, counts_fault, pair_fault, pairs_fault, places_fault, sections_fault, beyond, gates_fault, outputs_fault, fault}
use Rattle.laws.specs.Written.{Agree}
use Rattle.laws.specs.Laws.{GapsUnread}
use Rattle.laws.proofs.Tests.{passed, last_none, before_same}

-- a file that is too short is all front
short_same : (m n : ℕ) → min 54 m ≡ min 54 n → unless (leb 54 m) (Layout m) ≡ unless (leb 54 n) (Layout n)
short_same m n e =
    ⊎_elim
    (λ short. let same : m ≡ n = omega arith in ap (λ l. unless (leb 54 l) (Layout l)) same)
    (λ long. ap (λ t. unless t (Layout m)) (le-leb 54 m long) ∙ sym (ap (λ t. unless t (Layout n)) (le-leb 54 n (omega arith))))
    (cases_lt m 54)

-- a section that holds anything lies within the file if it holds all that it should
reach : (o n l : ℕ) → 1 ≤ n → leb (o + n) l ≡ eqb (min n (l - o)) n
reach o n l some =
    ⊎_elim
    (λ past. lt-leb (o + n) l past ∙ sym (ne_eqb (min n (l - o)) n (λ e. omega arith)))
    (λ fits. le-leb (o + n) l fits ∙ sym (eq-eqb (min n (l - o)) n (omega arith)))
    (cases_lt l (o + n))

part_length_lem : (o n : ℕ) (f : List ℕ) → length (take n (drop o f)) ≡ min n (length f - o)
part_length_lem o n f = length-take n (drop o f) ∙ ap (min n) (length-drop o f)

pair_len : (f : List ℕ) (pair soonest n : ℕ) → pair_fault f pair soonest n ≡ None → len f pair ≡ n
pair_len f pair soonest n e =
    let exact = eqb (len f pair) n in
    let apart = leb soonest (offset f pair) in
    eqb-true (len f pair) n (and_parts exact apart (passed (exact && apart) (Layout pair) e)).0

module _ (f g : List ℕ) (a : Agree f g) where
  same_at : (k : ℕ) → k < 54 → at f k ≡ at g k
  same_at k b = sym (get_or-take 54 f k 0 b) ∙ ap (λ l. at l k) a.front ∙ get_or-take 54 g k 0 b

  same_two : (k : ℕ) → k + 1 < 54 → two f k ≡ two g k
  same_two k b = let low = same_at k (omega arith) in let high = same_at (k + 1) b in λ i. joined (low i) (high i)

  same_four : (k : ℕ) → k + 3 < 54 → four f k ≡ four g k
  same_four k b = let low = same_two k (omega arith) in let high = same_two (k + 2) (omega arith) in λ i. low i + 65536 * high i

  same_header : header_of f ≡ header_of g
  same_header i =
      record {
        size = same_two 0 (omega arith) i;
        parties = same_two 2 (omega arith) i;
        inputs = same_two 4 (omega arith) i;
        gates = same_two 6 (omega arith) i;
        tables = same_two 8 (omega arith) i;
        rows = same_two 10 (omega arith) i;
        outputs = same_two 12 (omega arith) i;
      }

  same_offset : (pair : ℕ) → pair ≤ outputs_at → offset f pair ≡ offset g pair
  same_offset pair b = same_four pair (omega arith)

  same_len : (pair : ℕ) → pair ≤ outputs_at → len f pair ≡ len g pair
  same_len pair b = same_four (pair + 4) (omega arith)

  same_end : (pair : ℕ) → pair ≤ outputs_at → end_of f pair ≡ end_of g pair
  same_end pair b i = same_offset pair b i + same_len pair b i

  same_length_fault : length_fault f ≡ length_fault g
  same_length_fault = short_same (length f) (length g) (sym (length-take 54 f) ∙ ap length a.front ∙ length-take 54 g)

  same_count : (k low high : ℕ) → k + 1 < 54 → count_fault f k low high ≡ count_fault g k low high
  same_count k low high b = ap (λ n. unless (leb low n && leb n high) (Limit k)) (same_two k b)

  same_counts_lem : counts_fault f ≡ counts_fault g
  same_counts_lem i =
      first
      (same_count 0 2 256 (omega arith) i ∷ same_count 2 2 8 (omega arith) i ∷ same_count 4 1 160 (omega arith) i ∷ same_count 6 0 4096 (omega arith) i
      ∷ same_count 8 0 16 (omega arith) i ∷ same_count 10 0 64 (omega arith) i ∷ same_count 12 1 64 (omega arith) i ∷ [])

  same_pair : (pair : ℕ) → pair ≤ outputs_at → {s t m n : ℕ} → s ≡ t → m ≡ n → pair_fault f pair s m ≡ pair_fault g pair t n
  same_pair pair b p q i = unless (eqb (same_len pair b i) (q i) && leb (p i) (same_offset pair b i)) (Layout pair)

  last_count : counts_fault f ≡ None → count_fault f 12 1 64 ≡ None
  last_count e =
      last_none
      (count_fault f 0 2 256 ∷ count_fault f 2 2 8 ∷ count_fault f 4 1 160 ∷ count_fault f 6 0 4096 ∷ count_fault f 8 0 16 ∷ count_fault f 10 0 64 ∷ [])
      (count_fault f 12 1 64)
      e

  -- a file that passes the test of its counts has outputs
  some_outputs : counts_fault f ≡ None → 1 ≤ two f 12
  some_outputs e =
      let n = two f 12 in
      leb-true 1 n (and_parts (leb 1 n) (leb n 64) (passed (leb 1 n && leb n 64) (Limit 12) (last_count e))).0

  same_reach : 1 ≤ len f outputs_at → leb (end_of f outputs_at) (length f) ≡ leb (end_of g outputs_at) (length g)
  same_reach some =
      let e = same_len outputs_at (omega arith) in
      reach (offset f outputs_at) (len f outputs_at) (length f) some
      ∙ ap (λ n. eqb n (len f outputs_at)) (sym (part_length_lem (offset f outputs_at) (len f outputs_at) f))
      ∙ (λ i. eqb (length (a.outputs i)) (e i))
      ∙ ap (λ n. eqb n (len g outputs_at)) (part_length_lem (offset g outputs_at) (len g outputs_at) g)
      ∙ sym (reach (offset g outputs_at) (len g outputs_at) (length g) (omega arith))

  some_bytes : 1 ≤ two f 12 → pair_fault f outputs_at (end_of f gates_at) (2 * two f 12) ≡ None → 1 ≤ len f outputs_at
  some_bytes some none = omega (arith, pair_len f outputs_at (end_of f gates_at) (2 * two f 12) none)

  same_pairs : 1 ≤ two f 12 → pairs_fault f ≡ pairs_fault g
  same_pairs some =
      let owners = same_pair owners_at (omega arith) {s = 54} {t = 54} refl (ap (λ h. h.inputs) same_header) in
      let tables = same_pair tables_at (omega arith) (same_end owners_at (omega arith)) (ap (λ h. h.tables * h.size) same_header) in
      let rows = same_pair rows_at (omega arith) (same_end tables_at (omega arith)) (ap (λ h. 8 * h.rows) same_header) in
      let gates = same_pair gates_at (omega arith) (same_end rows_at (omega arith)) (ap (λ h. 5 * h.gates) same_header) in
      let outputs = same_pair outputs_at (omega arith) (same_end gates_at (omega arith)) (ap (λ h. 2 * h.outputs) same_header) in
      let last = before_same _ _ _ _ outputs (λ none. ap (λ t. before (unless t (Layout outputs_at)) None) (same_reach (some_bytes some none))) in
      λ i. before (owners i) (before (tables i) (before (rows i) (before (gates i) (last i))))

  same_sections : sections_fault f ≡ sections_fault g
  same_sections i =
      let h = same_header i in
      first
      (found Absent (beyond 1 (same_offset owners_at (omega arith) i) h.parties (a.owners i))
      ∷ found Code (beyond 1 (same_offset tables_at (omega arith) i) h.size (a.tables i))
      ∷ found Code (beyond 1 (same_offset rows_at (omega arith) i) h.size (a.rows i))
      ∷ gates_fault h (same_offset gates_at (omega arith) i) h.inputs 0 (gate_entries (a.gates i))
      ∷ outputs_fault h (same_offset outputs_at (omega arith) i) (numbers (a.outputs i)) ∷ [])

  same_fault : (gate_places output_places : ℕ) → fault f gate_places output_places ≡ fault g gate_places output_places
  unfolding fault
  same_fault gate_places output_places =
      before_same _ _ _ _ same_length_fault
      (λ _. before_same _ _ _ _ same_counts_lem
      (λ none. λ i. before (same_pairs (some_outputs none) i) (before (places_fault (same_header i) gate_places output_places) (before (same_sections i) None))))

  same_net : net_in f ≡ net_in g
  same_net i =
      record {
        size = (same_header i).size;
        parties = (same_header i).parties;
        owners = a.owners i;
        tables = a.tables i;
        rows = a.rows i;
        gates = known (gate_entries (a.gates i));
        outputs = numbers (a.outputs i);
      }

pub gaps_unread : GapsUnread
gaps_unread f g gate_places output_places a = record { verdict = same_fault f g a gate_places output_places; counts = same_header f g a; circuit = same_net f g a }
