-- What is known of a file that passed all tests.
use Rattle.std.proofs.Common.{◌≡◌, ℕ, zero, suc, ◌+◌, ◌*◌, ◌≤◌, List, [], ◌∷◌, length, drop, Some, None, Option, refl, ap, ◌∙◌, arith, length-drop}
use Rattle.std.proofs.lemmas.List.{length-take-le}
use Rattle.refusals.specs.declared.Refusal.{Refusal}
use Rattle.model.specs.Words.{mark}
use Rattle.model.specs.Net.{Gate, is_look}
use Rattle.files.specs.declared.header.Header.{Header}
use Rattle.refusals.specs.Tests.{before}
use Rattle.files.specs.Format.{header_of, tables_at, rows_at, gates_at, outputs_at, offset, len, end_of, section, gate_entries, known, numbers, net_in, InFile, Lengths}
use Rattle.files.specs.Faults.{counts_fault, pairs_fault, places_fault, owners_fault, codes_fault, gate_fault, gates_fault, outputs_fault, sections_fault, length_fault, fault}

-- where two tests pass, each does
pub both_pass : (t rest : Option Refusal) → before t rest ≡ None → (t ≡ None) × (rest ≡ None)
both_pass None rest e = (refl, e)
both_pass (Some r) rest e = let z : ◌≡◌ {A = ℕ} 0 1 = cc in absurd (omega arith)

pub section_length : (f : List ℕ) (pair : ℕ) → end_of f pair ≤ length f → length (section f pair) ≡ len f pair
section_length f pair h = length-take-le (len f pair) (drop (offset f pair) f) (simp length-drop (omega arith))

pub numbers_length : (n : ℕ) (xs : List ℕ) → length xs ≡ 2 * n → length (numbers xs) ≡ n
numbers_length zero [] e = refl
numbers_length (suc n) [] e = absurd (omega arith)
numbers_length zero (a ∷ []) e = absurd (omega arith)
numbers_length (suc n) (a ∷ []) e = absurd (omega arith)
numbers_length zero (a ∷ b ∷ xs) e = absurd (omega arith)
numbers_length (suc n) (a ∷ b ∷ xs) e = ap suc (numbers_length n xs (omega arith))

pub entries_length : (n : ℕ) (xs : List ℕ) → length xs ≡ 5 * n → length (gate_entries xs) ≡ n
entries_length zero [] e = refl
entries_length (suc n) [] e = absurd (omega arith)
entries_length zero (k ∷ []) e = absurd (omega arith)
entries_length (suc n) (k ∷ []) e = absurd (omega arith)
entries_length zero (k ∷ a ∷ []) e = absurd (omega arith)
entries_length (suc n) (k ∷ a ∷ []) e = absurd (omega arith)
entries_length zero (k ∷ a ∷ b ∷ []) e = absurd (omega arith)
entries_length (suc n) (k ∷ a ∷ b ∷ []) e = absurd (omega arith)
entries_length zero (k ∷ a ∷ b ∷ c ∷ []) e = absurd (omega arith)
entries_length (suc n) (k ∷ a ∷ b ∷ c ∷ []) e = absurd (omega arith)
entries_length zero (k ∷ a ∷ b ∷ c ∷ d ∷ xs) e = absurd (omega arith)
entries_length (suc n) (k ∷ a ∷ b ∷ c ∷ d ∷ xs) e = ap suc (entries_length n xs (omega arith))

-- gates that pass are all of known kinds
pub known_length : (h : Header) (o w l : ℕ) (es : List (Option Gate)) → gates_fault h o w l es ≡ None → length (known es) ≡ length es
known_length h o w l [] e = refl
known_length h o w l (None ∷ es) e = let z : ◌≡◌ {A = ℕ} 0 1 = cc in absurd (omega arith)
known_length h o w l (Some g ∷ es) e =
    ap suc (known_length h (o + 5) (w + 1) (l + mark (is_look g)) es (both_pass (gate_fault h o w l g) (gates_fault h (o + 5) (w + 1) (l + mark (is_look g)) es) e).1)

-- the tests that a file passed, one by one
pub record Passes (f : List ℕ) (g o : ℕ) : Type 0 where
  pub counts : counts_fault f ≡ None
  pub pairs : pairs_fault f ≡ None
  pub places : places_fault (header_of f) g o ≡ None
  pub owners : owners_fault f ≡ None
  pub tables : codes_fault f tables_at ≡ None
  pub rows : codes_fault f rows_at ≡ None
  pub gates : gates_fault (header_of f) (offset f gates_at) (header_of f).inputs 0 (gate_entries (section f gates_at)) ≡ None
  pub outputs : outputs_fault (header_of f) (offset f outputs_at) (numbers (section f outputs_at)) ≡ None

pub passed : (f : List ℕ) (g o : ℕ) → fault f g o ≡ None → Passes f g o
unfolding fault
passed f g o e =
    let places = places_fault (header_of f) g o in
    let gates = gates_fault (header_of f) (offset f gates_at) (header_of f).inputs 0 (gate_entries (section f gates_at)) in
    let outputs = outputs_fault (header_of f) (offset f outputs_at) (numbers (section f outputs_at)) in
    let a = both_pass (length_fault f) (before (counts_fault f) (before (pairs_fault f) (before places (before (sections_fault f) None)))) e in
    let b = both_pass (counts_fault f) (before (pairs_fault f) (before places (before (sections_fault f) None))) a.1 in
    let c = both_pass (pairs_fault f) (before places (before (sections_fault f) None)) b.1 in
    let d = both_pass places (before (sections_fault f) None) c.1 in
    let s = both_pass (sections_fault f) None d.1 in
    let t = both_pass (owners_fault f) (before (codes_fault f tables_at) (before (codes_fault f rows_at) (before gates (before outputs None)))) s.0 in
    let u = both_pass (codes_fault f tables_at) (before (codes_fault f rows_at) (before gates (before outputs None))) t.1 in
    let v = both_pass (codes_fault f rows_at) (before gates (before outputs None)) u.1 in
    let w = both_pass gates (before outputs None) v.1 in
    record {
      counts = b.0;
      pairs = c.0;
      places = d.0;
      owners = t.0;
      tables = u.0;
      rows = v.0;
      gates = w.0;
      outputs = (both_pass outputs None w.1).0;
    }

-- an accepted file has as many gates and outputs as it counts
module _ (f : List ℕ) (g o : ℕ) (e : fault f g o ≡ None) (within : InFile f) (lengths : Lengths f) where
  pub gates_counted : length (net_in f).gates ≡ (header_of f).gates
  gates_counted =
      known_length (header_of f) (offset f gates_at) (header_of f).inputs 0 (gate_entries (section f gates_at)) (passed f g o e).gates
      ∙ entries_length (header_of f).gates (section f gates_at) (section_length f gates_at within.3 ∙ lengths.3)

  pub outputs_counted : length (net_in f).outputs ≡ (header_of f).outputs
  outputs_counted = numbers_length (header_of f).outputs (section f outputs_at) (section_length f outputs_at within.4 ∙ lengths.4)
