-- The sections of a file, wherever they stand. Assumes nothing.
use Rattle.std.proofs.Common.{◌≡◌, ℕ, zero, suc, ◌+◌, ◌<◌, ◌≤◌, List, [], ◌∷◌, ◌++◌, length, get_or, take, drop, ap, ◌∙◌, arith, length-append, length-drop}
use Rattle.std.proofs.lemmas.List.{drop_at, take_all, drop-append-le, take-append-le}
use Rattle.std.specs.List.{flat_map as each}
use Rattle.model.specs.Net.{Net}
use Rattle.files.specs.Format.{offset, len, end_of, section}
use Rattle.laws.specs.Written.{Gaps, two_bytes, four_bytes, counts_of, in_order, gate_section, output_section, directory}

-- f has these bytes at o
pub record Part (f : List ℕ) (o : ℕ) (bytes : List ℕ) : Type 0 where
  pub holds : take (length bytes) (drop o f) ≡ bytes
  pub within : o + length bytes ≤ length f

part_last : (f bytes : List ℕ) (o : ℕ) → length f ≡ o → Part (f ++ bytes) o bytes
part_last f bytes o e =
    record {
      holds = ap (take (length bytes)) (drop_at f bytes o e) ∙ take_all (length bytes) bytes (omega arith);
      within = omega (arith, length-append f bytes);
    }

part_more : (f bytes more : List ℕ) (o : ℕ) → Part f o bytes → Part (f ++ more) o bytes
part_more f bytes more o h =
    let n = length bytes in
    record {
      holds =
          ap (take n) (drop-append-le o f more (omega (arith, h.within)))
          ∙ take-append-le n (drop o f) more (omega (arith, h.within, length-drop o f))
          ∙ h.holds;
      within = omega (arith, h.within, length-append f more);
    }

-- pieces one after another behind f
abbrev pub chained : List ℕ → List (List ℕ) → List ℕ
chained f [] = f
chained f (p ∷ ps) = chained (f ++ p) ps

-- where piece k begins, if the first one begins at o
abbrev pub start : ℕ → List (List ℕ) → ℕ → ℕ
start o [] k = o
start o (p ∷ ps) zero = o
start o (p ∷ ps) (suc k) = start (o + length p) ps k

part_chained : (f bytes : List ℕ) (o : ℕ) (ps : List (List ℕ)) → Part f o bytes → Part (chained f ps) o bytes
part_chained f bytes o [] h = h
part_chained f bytes o (p ∷ ps) h = part_chained (f ++ p) bytes o ps (part_more f bytes p o h)

-- each piece is where it should be
pub piece : (f : List ℕ) (o : ℕ) (ps : List (List ℕ)) (k : ℕ) → length f ≡ o → k < length ps → Part (chained f ps) (start o ps k) (get_or ps k [])
piece f o [] k e b = absurd (omega arith)
piece f o (p ∷ ps) zero e b = part_chained (f ++ p) p o ps (part_last f p o e)
piece f o (p ∷ ps) (suc k) e b =
    piece (f ++ p) (o + length p) ps k (length-append f p ∙ ap (λ n. n + length p) e) (omega arith)

-- a section, by its pair in the directory
pub record Placed (f : List ℕ) (pair o : ℕ) (bytes : List ℕ) : Type 0 where
  pub begins : offset f pair ≡ o
  pub measures : len f pair ≡ length bytes
  pub part : Part f o bytes

module _ (f : List ℕ) (pair o : ℕ) (bytes : List ℕ) (p : Placed f pair o bytes) where
  pub section_read : section f pair ≡ bytes
  section_read = (λ i. take (p.measures i) (drop (p.begins i) f)) ∙ p.part.holds

  pub ends : (next : ℕ) → o + length bytes ≤ next → end_of f pair ≤ next
  ends next l = omega (arith, p.begins, p.measures)

-- header and directory, and what stands behind them
abbrev pub front : Net → Gaps → List ℕ
front net gaps = each two_bytes (in_order (counts_of net)) ++ each four_bytes (directory net gaps)

abbrev pub pieces : Net → Gaps → List (List ℕ)
pieces net gaps =
    gaps.before_owners ∷ net.owners ∷ gaps.before_tables ∷ net.tables ∷ gaps.before_rows ∷ net.rows ∷ gaps.before_gates ∷ gate_section net
    ∷ gaps.before_outputs ∷ output_section net ∷ gaps.after ∷ []
