-- How many input wires a party owns, and their masks in order.
use Rattle.std.proofs.Common.{◌≡◌, ℕ, ◌+◌, ◌*◌, ◌<◌, ◌≤◌, Bool, true, false, cond, eqb, List, [], ◌∷◌, ◌++◌, length, take, drop, set, refl, sym, ap, ◌∙◌, ap₂, arith}
use Rattle.std.specs.List.{count_by}
use Rattle.std.proofs.lemmas.List.{append-nil, append_assoc, drop_more, drop_all, take_more_set}
use Rattle.std.proofs.lemmas.List.Recursion.{is_count_by}
use Rattle.std.proofs.lemmas.Nat.{mul-le}
use Rattle.std.proofs.lemmas.Bool.{eq-eqb, ne_eqb, cond-true, cond-false}
use Rattle.model.specs.Words.{at, mark}
use Rattle.model.specs.Net.{Net, Valid, look_count}
use Rattle.model.specs.Deal.{owned, own_masks, part_length}
use Rattle.model.proofs.Counts.{tally_more, tally_below, tally_all}

-- the count of an iterator
pub owned_count : (h : ℕ) (os : List ℕ) → owned h os ≡ count_by (λ o. eqb o h) os
owned_count h os = is_count_by (owned h) (λ o. eqb o h) refl (λ o rest. one (eqb o h) (owned h rest)) os
  where
    one : (b : Bool) (n : ℕ) → mark b + n ≡ cond b (1 + n) n
    one true n = refl
    one false n = omega arith

-- fewer before an own wire than in all
pub owned_below : (h : ℕ) (os : List ℕ) (i : ℕ) → i < length os → at os i ≡ h → owned h (take i os) < owned h os
owned_below h os i l e = tally_below (λ o. eqb o h) os i 0 l (eq-eqb (at os i) h e)

-- a part is short
pub part_few : (net : Net) → Valid net → (h : ℕ) → part_length net h ≤ 160 + (240 * 256 + 64)
part_few net valid h =
    let own = tally_all (λ o. eqb o h) net.owners in
    let cells = mul-le (look_count net.gates) net.size 240 256 valid.few valid.sized.1 in
    omega (arith, valid.counted)

-- wire by wire
module _ (h : ℕ) (os : List ℕ) (i : ℕ) (l : i < length os) where
  pub owned_yes : at os i ≡ h → owned h (take (i + 1) os) ≡ owned h (take i os) + 1
  owned_yes e = let m = tally_more (λ o. eqb o h) os i 0 l in let o = ap mark (eq-eqb (at os i) h e) in omega arith

  pub owned_no : (at os i ≡ h → ⊥) → owned h (take (i + 1) os) ≡ owned h (take i os)
  owned_no e = let m = tally_more (λ o. eqb o h) os i 0 l in let o = ap mark (ne_eqb (at os i) h e) in omega arith

-- the own masks from wire i on
module _ (h : ℕ) (os ms : List ℕ) (i : ℕ) (l : i < length os) (m : i < length ms) where
  pub own_yes : at os i ≡ h → own_masks h (drop i os) (drop i ms) ≡ at ms i ∷ own_masks h (drop (i + 1) os) (drop (i + 1) ms)
  unfolding own_masks
  own_yes e =
      ap₂ (own_masks h) (drop_more os i 0 l) (drop_more ms i 0 m)
      ∙ cond-true (eqb (at os i) h) (at ms i ∷ own_masks h (drop (i + 1) os) (drop (i + 1) ms)) (own_masks h (drop (i + 1) os) (drop (i + 1) ms)) (eq-eqb (at os i) h e)

  pub own_no : (at os i ≡ h → ⊥) → own_masks h (drop i os) (drop i ms) ≡ own_masks h (drop (i + 1) os) (drop (i + 1) ms)
  unfolding own_masks
  own_no e =
      ap₂ (own_masks h) (drop_more os i 0 l) (drop_more ms i 0 m)
      ∙ cond-false (eqb (at os i) h) (at ms i ∷ own_masks h (drop (i + 1) os) (drop (i + 1) ms)) (own_masks h (drop (i + 1) os) (drop (i + 1) ms)) (ne_eqb (at os i) h e)

  -- a mask that is copied to the next place
  pub copied_yes : (part all : List ℕ) (s : ℕ) → s < length part → at os i ≡ h → take s part ++ own_masks h (drop i os) (drop i ms) ≡ all
      → take (s + 1) (set part s (at ms i)) ++ own_masks h (drop (i + 1) os) (drop (i + 1) ms) ≡ all
  copied_yes part all s room e so =
      let rest = own_masks h (drop (i + 1) os) (drop (i + 1) ms) in
      ap (λ xs. xs ++ rest) (take_more_set part s (at ms i) room) ∙ append_assoc (take s part) (at ms i ∷ []) rest
      ∙ ap (λ xs. take s part ++ xs) (sym (own_yes e))
      ∙ so

  pub copied_no : (part all : List ℕ) (s : ℕ) → (at os i ≡ h → ⊥) → take s part ++ own_masks h (drop i os) (drop i ms) ≡ all
      → take s part ++ own_masks h (drop (i + 1) os) (drop (i + 1) ms) ≡ all
  copied_no part all s e so = ap (λ xs. take s part ++ xs) (sym (own_no e)) ∙ so

pub copied_all : (h : ℕ) (os ms : List ℕ) (i : ℕ) (part all : List ℕ) (s : ℕ) → length os ≤ i → take s part ++ own_masks h (drop i os) (drop i ms) ≡ all → take s part ≡ all
unfolding own_masks
copied_all h os ms i part all s l so =
    sym (append-nil (take s part)) ∙ ap (λ xs. take s part ++ own_masks h xs (drop i ms)) (sym (drop_all i os l)) ∙ so
