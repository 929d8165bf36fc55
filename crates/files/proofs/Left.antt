-- One entry of a section of gates, and what is left of the section after it.
use Rattle.std.proofs.Common.{◌≡◌, ℕ, ◌+◌, ◌-◌, ◌≤◌, Bool, true, false, not, ◌||◌, ltb, List, [], ◌∷◌, length, take, drop, None, sym, refl, ap, arith}
use Rattle.std.proofs.lemmas.List.{take_rest}
use Rattle.std.proofs.lemmas.Bool.{ltb-true}
use Rattle.refusals.specs.declared.Refusal.TheVariants.{Limit, Operand}
use Rattle.model.specs.Words.{at, mark}
use Rattle.model.specs.Net.{Gate, is_look, first_of, second_of, limit}
use Rattle.files.specs.declared.header.Header.{Header}
use Rattle.refusals.specs.Tests.{unless, before, first}
use Rattle.files.specs.Format.{joined, gate_of_kind, gate_entries}
use Rattle.files.specs.Faults.{second_refusal, gate_fault}

pub entries_more : (xs : List ℕ) → 5 ≤ length xs
    → gate_entries xs ≡ gate_of_kind (at xs 0) (joined (at xs 1) (at xs 2)) (joined (at xs 3) (at xs 4)) ∷ gate_entries (take (length xs - 5) (drop 5 xs))
entries_more [] h = absurd (omega arith)
entries_more (k ∷ []) h = absurd (omega arith)
entries_more (k ∷ a ∷ []) h = absurd (omega arith)
entries_more (k ∷ a ∷ b ∷ []) h = absurd (omega arith)
entries_more (k ∷ a ∷ b ∷ c ∷ []) h = absurd (omega arith)
entries_more (k ∷ a ∷ b ∷ c ∷ d ∷ rest) h =
    ap (λ r. gate_of_kind k (joined a b) (joined c d) ∷ gate_entries r) (sym (take_rest (k ∷ a ∷ b ∷ c ∷ d ∷ rest) 5))

module _ (h : Header) (o w l : ℕ) (g : Gate) (passes : gate_fault h o w l g ≡ None) where
  -- a LOOK that passes is one of 240
  pub look_room : l ≤ 240 → l + mark (is_look g) ≤ 240
  look_room le = by (is_look g) (ltb l 240) refl passes
    where
      by : (b t : Bool) → t ≡ ltb l 240 → before (unless (not b || t) (Limit o)) (first (unless (ltb (first_of g) w) (Operand (o + 1)) ∷ unless (ltb (second_of g) (limit h.size h.rows h.tables w g)) (second_refusal g (o + 3)) ∷ [])) ≡ None → l + mark b ≤ 240
      by false t e p = omega arith
      by true true e p = let lt = ltb-true l 240 (sym e) in omega arith
      by true false e p = let z : ◌≡◌ {A = ℕ} 0 1 = cc in absurd (omega arith)
