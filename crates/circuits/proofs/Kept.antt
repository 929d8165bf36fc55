-- What passed the tests is a valid net.
use Rattle.std.proofs.Common.{◌≡◌, ℕ, zero, suc, ◌+◌, ◌*◌, ◌/◌, ◌<◌, ◌≤◌, Bool, true, false, cond, not, ◌&&◌, ◌||◌, ltb, leb, List, [], ◌∷◌, map, length, get_or, take, drop, Some, None, Option, sym, refl, ap, ◌∙◌, subst, mul-div_cancel, arith}
use native.Mathlib.Nat.{mul-div_cancel_left}
use Rattle.std.proofs.lemmas.List.{length-map, length-take-le}
use Rattle.std.proofs.lemmas.Option.{none-some}
use Rattle.std.proofs.lemmas.Bool.{ltb-true, leb-true, and_parts}
use Rattle.refusals.specs.declared.Refusal.{Refusal}
use Rattle.refusals.specs.declared.Refusal.TheVariants.{Limit, Places, Operand, Code, Absent}
use Rattle.refusals.specs.Tests.{unless, found, before}
use Rattle.model.specs.Words.{Below, mark}
use Rattle.model.specs.Net.{Gate, adds, is_look, look_count, first_of, second_of, limit, Valid}
use Rattle.files.specs.declared.gate.Gate as gate
use Rattle.files.specs.declared.header.Header.{Header}
use Rattle.files.specs.declared.directory.Directory.{Directory}
use Rattle.files.specs.Gates.{gates_of}
use Rattle.files.specs.Format.{two, header_of, directory_of, owners_at, tables_at, rows_at, gates_at, outputs_at, offset, section, InFile, Lengths}
use Rattle.files.specs.Faults.{count_fault, beyond, gate_fault, gates_fault, outputs_fault, second_refusal, fault}
use Rattle.files.proofs.Passed.{both_pass, passed, section_length}
use Rattle.files.proofs.Left.{look_room}
use Rattle.circuits.specs.Nets.{net_of}
use Rattle.circuits.specs.Made.{circuit_net}

-- a test that refused nothing passed
pub holds : (b : Bool) (r : Refusal) → unless b r ≡ None → b ≡ true
holds true r e = refl
holds false r e = absurd (none-some r (sym e))

none_found : (why : ℕ → Refusal) (o : Option ℕ) → found why o ≡ None → o ≡ None
none_found why None e = refl
none_found why (Some o) e = absurd (none-some (why o) (sym e))

goes_on : (b : Bool) (rest : Option ℕ) (o : ℕ) → cond b rest (Some o) ≡ None → (b ≡ true) × (rest ≡ None)
goes_on true rest o e = (refl, e)
goes_on false rest o e = absurd (none-some o (sym e))

one_more : (x : ℕ) (xs : List ℕ) (high : ℕ) → x < high → Below high xs → Below high (x ∷ xs)
one_more x xs high h t zero l = h
one_more x xs high h t (suc k) l = t k (omega arith)

-- numbers none of which is beyond a limit are all below it
all_below : (w o high : ℕ) (xs : List ℕ) → beyond w o high xs ≡ None → Below high xs
all_below w o high [] e k l = absurd (omega arith)
all_below w o high (x ∷ xs) e k l =
    let p = goes_on (ltb x high) (beyond w (o + w) high xs) o e in
    one_more x xs high (ltb-true x high p.0) (all_below w (o + w) high xs p.1) k l

-- gates that passed have the operands that they may have
module _ (h : Header) where
  operands : (o w l : ℕ) (g : Gate) → gate_fault h o w l g ≡ None → (first_of g < w) × (second_of g < limit h.size h.rows h.tables w g)
  operands o w l g e =
      let second = unless (ltb (second_of g) (limit h.size h.rows h.tables w g)) (second_refusal g (o + 3)) in
      let rest = before (unless (ltb (first_of g) w) (Operand (o + 1))) (before second None) in
      let a = (both_pass (unless (not (is_look g) || ltb l 240) (Limit o)) rest e).1 in
      let b = both_pass (unless (ltb (first_of g) w) (Operand (o + 1))) (before second None) a in
      (ltb-true (first_of g) w (holds (ltb (first_of g) w) (Operand (o + 1)) b.0), ltb-true (second_of g) (limit h.size h.rows h.tables w g) (holds _ (second_refusal g (o + 3)) (both_pass second None b.1).0))

  all_wired : (o w l : ℕ) (gs : List Gate) → gates_fault h o w l (map Some gs) ≡ None → (k : ℕ) → k < length gs
      → (first_of (get_or gs k (adds 0 0)) < w + k) × (second_of (get_or gs k (adds 0 0)) < limit h.size h.rows h.tables (w + k) (get_or gs k (adds 0 0)))
  all_wired o w l [] e k lt = absurd (omega arith)
  all_wired o w l (g ∷ gs) e zero lt =
      let p = operands o w l g (both_pass (gate_fault h o w l g) (gates_fault h (o + 5) (w + 1) (l + mark (is_look g)) (map Some gs)) e).0 in
      let same : w ≡ w + 0 = omega arith in
      subst (λ (n : ℕ). (first_of g < n) × (second_of g < limit h.size h.rows h.tables n g)) same p
  all_wired o w l (g ∷ gs) e (suc k) lt =
      let p = all_wired (o + 5) (w + 1) (l + mark (is_look g)) gs (both_pass (gate_fault h o w l g) (gates_fault h (o + 5) (w + 1) (l + mark (is_look g)) (map Some gs)) e).1 k (omega arith) in
      let g' = get_or gs k (adds 0 0) in
      let same : (w + 1) + k ≡ w + suc k = omega arith in
      subst (λ (n : ℕ). (first_of g' < n) × (second_of g' < limit h.size h.rows h.tables n g')) same p

  few_looks : (o w l : ℕ) (gs : List Gate) → gates_fault h o w l (map Some gs) ≡ None → l ≤ 240 → l + look_count gs ≤ 240
  few_looks o w l [] e le = omega arith
  few_looks o w l (g ∷ gs) e le =
      let p = both_pass (gate_fault h o w l g) (gates_fault h (o + 5) (w + 1) (l + mark (is_look g)) (map Some gs)) e in
      let more = few_looks (o + 5) (w + 1) (l + mark (is_look g)) gs p.1 (look_room h o w l g p.0 le) in
      omega arith

-- the same operands within the same limits
within_limits : (q : ℕ) {r r' t t' w w' : ℕ} (g : Gate) → r ≡ r' → t ≡ t' → w ≡ w' → (first_of g < w) × (second_of g < limit q r t w g)
    → (first_of g < w') × (second_of g < limit q r' t' w' g)
within_limits q {r} {r'} {t} {t'} {w} {w'} g a b c p =
    subst (λ (n : ℕ). (first_of g < n) × (second_of g < limit q r' t' n g)) c
    (subst (λ (n : ℕ). (first_of g < w) × (second_of g < limit q r' n w g)) b
    (subst (λ (n : ℕ). (first_of g < w) × (second_of g < limit q n t w g)) a p))

-- a count that passed lies within its limits
limits : (f : List ℕ) (k low high : ℕ) → count_fault f k low high ≡ None → (low ≤ two f k) × (two f k ≤ high)
limits f k low high e =
    let p = and_parts (leb low (two f k)) (leb (two f k) high) (holds (leb low (two f k) && leb (two f k) high) (Limit k) e) in
    (leb-true low (two f k) p.0, leb-true (two f k) high p.1)

module _ (f : List ℕ) (gs : List gate.Gate) (os : List ℕ) (e : fault f (length gs) (length os) ≡ None) (within : InFile f) (lengths : Lengths f)
    (gates : gates_fault (header_of f) (offset f gates_at) (header_of f).inputs 0 (map Some (gates_of (take (header_of f).gates gs))) ≡ None)
    (outputs : outputs_fault (header_of f) (offset f outputs_at) (take (header_of f).outputs os) ≡ None) where
  pub kept : Valid (circuit_net f gs os)
  kept =
      let h = header_of f in
      let t = passed f (length gs) (length os) e in
      let c7 = count_fault f 12 1 64 in
      let c6 = count_fault f 10 0 64 in
      let c5 = count_fault f 8 0 16 in
      let c4 = count_fault f 6 0 4096 in
      let c3 = count_fault f 4 1 160 in
      let c2 = count_fault f 2 2 8 in
      let p1 = both_pass (count_fault f 0 2 256) (before c2 (before c3 (before c4 (before c5 (before c6 (before c7 None)))))) t.counts in
      let p2 = both_pass c2 (before c3 (before c4 (before c5 (before c6 (before c7 None))))) p1.1 in
      let p3 = both_pass c3 (before c4 (before c5 (before c6 (before c7 None)))) p2.1 in
      let p4 = both_pass c4 (before c5 (before c6 (before c7 None))) p3.1 in
      let p5 = both_pass c5 (before c6 (before c7 None)) p4.1 in
      let p6 = both_pass c6 (before c7 None) p5.1 in
      let p7 = both_pass c7 None p6.1 in
      let size = limits f 0 2 256 p1.0 in
      let parties = limits f 2 2 8 p2.0 in
      let inputs = limits f 4 1 160 p3.0 in
      let few_gates = limits f 6 0 4096 p4.0 in
      let tables = limits f 8 0 16 p5.0 in
      let rows = limits f 10 0 64 p6.0 in
      let outs = limits f 12 1 64 p7.0 in
      let places = both_pass (unless (leb h.gates (length gs)) (Places 6)) (before (unless (leb h.outputs (length os)) (Places 12)) None) t.places in
      let gate_room = leb-true h.gates (length gs) (holds _ (Places 6) places.0) in
      let output_room = leb-true h.outputs (length os) (holds _ (Places 12) (both_pass (unless (leb h.outputs (length os)) (Places 12)) None places.1).0) in
      let owners_long : length (section f owners_at) ≡ h.inputs = section_length f owners_at within.0 ∙ lengths.0 in
      let tables_long : length (section f tables_at) ≡ h.tables * h.size = section_length f tables_at within.1 ∙ lengths.1 in
      let rows_long : length (section f rows_at) ≡ 8 * h.rows = section_length f rows_at within.2 ∙ lengths.2 in
      let gates_long : length (gates_of (take h.gates gs)) ≡ h.gates = length-map (take h.gates gs) _ ∙ length-take-le h.gates gs gate_room in
      let outputs_long : length (take h.outputs os) ≡ h.outputs = length-take-le h.outputs os output_room in
      let some : 0 < h.size = omega (arith, size.0) in
      let table_count_lem : length (section f tables_at) / h.size ≡ h.tables = ap (λ n. n / h.size) tables_long ∙ mul-div_cancel h.tables some in
      let row_count_lem : length (section f rows_at) / 8 ≡ h.rows = ap (λ n. n / 8) rows_long ∙ mul-div_cancel_left h.rows (omega arith) in
      let wired = all_wired h (offset f gates_at) h.inputs 0 (gates_of (take h.gates gs)) gates in
      let wires_are : h.inputs + h.gates ≡ length (section f owners_at) + length (gates_of (take h.gates gs)) = omega arith in
      record {
        sized = (size.0, size.1, parties.0, parties.1);
        counted = (omega (arith, inputs.0), omega (arith, inputs.1), omega (arith, few_gates.1), omega (arith, outs.0), omega (arith, outs.1));
        whole = (
          tables_long ∙ ap (λ n. n * h.size) (sym table_count_lem),
          omega (arith, tables.1),
          rows_long ∙ ap (λ n. 8 * n) (sym row_count_lem),
          omega (arith, rows.1),
        );
        coded = (
          all_below 1 (offset f tables_at) h.size (section f tables_at) (none_found Code _ t.tables),
          all_below 1 (offset f rows_at) h.size (section f rows_at) (none_found Code _ t.rows),
        );
        named = (
          all_below 1 (offset f owners_at) h.parties (section f owners_at) (none_found Absent _ t.owners),
          subst (λ (n : ℕ). Below n (take h.outputs os)) wires_are
              (all_below 2 (offset f outputs_at) (h.inputs + h.gates) (take h.outputs os) (none_found Absent _ outputs)),
        );
        wired = λ k l. within_limits h.size (get_or (gates_of (take h.gates gs)) k (adds 0 0)) (sym row_count_lem) (sym table_count_lem) (ap (λ n. n + k) (sym owners_long)) (wired k l);
        few = let l = few_looks h (offset f gates_at) h.inputs 0 (gates_of (take h.gates gs)) gates (omega arith) in omega arith;
      }

same_parts : {q q' n n' : ℕ} {a a' b b' c c' o o' : List ℕ} {g g' : List gate.Gate} → q ≡ q' → n ≡ n' → a ≡ a' → b ≡ b' → c ≡ c' → g ≡ g' → o ≡ o'
    → net_of q n a b c g o ≡ net_of q' n' a' b' c' g' o'
same_parts p1 p2 p3 p4 p5 p6 p7 = cc

-- the circuit's parts, as they are cut out by the numbers of the file
pub same_net : (f : List ℕ) (gs : List gate.Gate) (os : List ℕ) (h : Header) (d : Directory) (a b c : List ℕ) (g : List gate.Gate) (o : List ℕ) → h ≡ header_of f → d ≡ directory_of f
    → a ≡ take d.owners.1 (drop d.owners.0 f) → b ≡ take d.tables.1 (drop d.tables.0 f) → c ≡ take d.rows.1 (drop d.rows.0 f)
    → g ≡ take h.gates gs → o ≡ take h.outputs os → circuit_net f gs os ≡ net_of h.size h.parties a b c g o
same_net f gs os h d a b c g o eh ed ea eb ec eg eo =
    sym
    (same_parts (ap (λ x. x.size) eh) (ap (λ x. x.parties) eh) (ea ∙ ap (λ x. take x.owners.1 (drop x.owners.0 f)) ed)
    (eb ∙ ap (λ x. take x.tables.1 (drop x.tables.0 f)) ed)
    (ec ∙ ap (λ x. take x.rows.1 (drop x.rows.0 f)) ed)
    (eg ∙ ap (λ x. take x.gates gs) eh)
    (eo ∙ ap (λ x. take x.outputs os) eh))
