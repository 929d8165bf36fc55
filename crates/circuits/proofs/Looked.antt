-- The LOOK gates of a list, one after another.
use Rattle.std.proofs.Common.{◌≡◌, ℕ, suc, ◌+◌, ◌<◌, ◌≤◌, true, false, not, cond, ltb, List, [], ◌∷◌, length, get_or, take, drop, Some, None, sym, refl, ap, ◌∙◌, subst, ap₂, ⊎_elim, ◌-◌, arith}
use Rattle.std.specs.List.{position_or_len, position}
use Rattle.std.proofs.lemmas.Bool.{ltb-true, ltb-false, cases_Bool, cond-true, cond-false}
use Rattle.std.proofs.lemmas.Option.{none-some, cond_some}
use Rattle.std.proofs.lemmas.List.{take_rest, drop_more, length-drop}
use Rattle.model.specs.Net.{Net, Gate, adds, shifts, maps, looks, Valid, is_look, first_of, second_of, limit, inputs, wires, gate_at, row_count, table_count, look_total, lookup_at, lookups_from, lookups, Lookup}
use Rattle.model.proofs.Lookups.{look_of, look_at, lookups_length}
use Rattle.files.specs.declared.gate.Gate as of
use Rattle.files.specs.declared.gate.Kind.{Kind}
use Rattle.files.specs.declared.gate.Kind.TheVariants.{Add, Shift, Map, Look}
use Rattle.files.specs.Gates.{of_kind, gate_of, gates_of, no_gate}

-- how many gates stand before the first LOOK
abbrev before : List of.Gate → ℕ
before gs = position_or_len (λ g. is_look (gate_of g)) gs

-- the list from a gate on, which is a LOOK or not
from_gate : (w : ℕ) (g : Gate) (gs : List Gate)
    → lookups_from w (g ∷ gs) ≡ cond (is_look g) (record { wire = w; operand = first_of g; table = second_of g } ∷ lookups_from (w + 1) gs) (lookups_from (w + 1) gs)
unfolding lookups_from
from_gate w (adds f s) gs = refl
from_gate w (shifts f s) gs = refl
from_gate w (maps f s) gs = refl
from_gate w (looks f s) gs = refl

passes : (w : ℕ) (g : Gate) (gs : List Gate) → is_look g ≡ false → lookups_from w (g ∷ gs) ≡ lookups_from (w + 1) gs
passes w g gs e = from_gate w g gs ∙ cond-false (is_look g) _ _ e

gives : (w : ℕ) (g : Gate) (gs : List Gate) → is_look g ≡ true → lookups_from w (g ∷ gs) ≡ record { wire = w; operand = first_of g; table = second_of g } ∷ lookups_from (w + 1) gs
gives w g gs e = from_gate w g gs ∙ cond-true (is_look g) _ _ e

-- a LOOK in front, and another gate
none_of : (g : of.Gate) (gs : List of.Gate) → is_look (gate_of g) ≡ true → before (g ∷ gs) ≡ 0
none_of g gs e = ap (λ b. cond (not b) (1 + before gs) 0) e

one_of : (g : of.Gate) (gs : List of.Gate) → is_look (gate_of g) ≡ false → before (g ∷ gs) ≡ suc (before gs)
one_of g gs e = ap (λ b. cond (not b) (1 + before gs) 0) e ∙ omega arith

none_before : (gs : List of.Gate) (w : ℕ) → length gs ≤ before gs → lookups_from w (gates_of gs) ≡ []
unfolding lookups_from
none_before [] w l = refl
none_before (g ∷ gs) w l =
    ⊎_elim
    (λ (e : is_look (gate_of g) ≡ true). absurd (omega (arith, none_of g gs e)))
    (λ (e : is_look (gate_of g) ≡ false). passes w (gate_of g) (gates_of gs) e ∙ none_before gs (w + 1) (omega (arith, one_of g gs e)))
    (cases_Bool (is_look (gate_of g)))

-- Gate k is the next LOOK of all, as the list from it on says.
abbrev Next : List of.Gate → ℕ → ℕ → Type 0
Next gs w k =
    lookups_from w (gates_of gs) ≡ record { wire = w + k; operand = first_of (gate_of (get_or gs k no_gate)); table = second_of (gate_of (get_or gs k no_gate)) }
    ∷ lookups_from (w + k + 1) (gates_of (drop (suc k) gs))

next_here : (g : of.Gate) (gs : List of.Gate) (w : ℕ) → is_look (gate_of g) ≡ true → Next (g ∷ gs) w 0
next_here g gs w e = subst (λ n. lookups_from w (gates_of (g ∷ gs)) ≡ record { wire = n; operand = first_of (gate_of g); table = second_of (gate_of g) } ∷ lookups_from (n + 1) (gates_of gs)) (omega arith) (gives w (gate_of g) (gates_of gs) e)

next_later : (g : of.Gate) (gs : List of.Gate) (w k : ℕ) → is_look (gate_of g) ≡ false → Next gs (w + 1) k → Next (g ∷ gs) w (suc k)
next_later g gs w k e so =
    let here : (w + 1) + k ≡ w + suc k = omega arith in
    passes w (gate_of g) (gates_of gs) e
    ∙ subst (λ n. lookups_from (w + 1) (gates_of gs) ≡ record { wire = n; operand = first_of (gate_of (get_or gs k no_gate)); table = second_of (gate_of (get_or gs k no_gate)) } ∷ lookups_from (n + 1) (gates_of (drop (suc k) gs))) here so

some_before : (gs : List of.Gate) (w : ℕ) → before gs < length gs → Next gs w (before gs)
some_before [] w l = absurd (omega arith)
some_before (g ∷ gs) w l =
    ⊎_elim
    (λ (e : is_look (gate_of g) ≡ true). subst (Next (g ∷ gs) w) (sym (none_of g gs e)) (next_here g gs w e))
    (λ (e : is_look (gate_of g) ≡ false). subst (Next (g ∷ gs) w) (sym (one_of g gs e)) (next_later g gs w (before gs) e (some_before gs (w + 1) (omega (arith, one_of g gs e)))))
    (cases_Bool (is_look (gate_of g)))

-- the operands of a record
operands_are : (g : of.Gate) → (first_of (gate_of g) ≡ g.first) × (second_of (gate_of g) ≡ g.second)
operands_are g = go g.kind
  where
    go : (k : Kind) → (first_of (of_kind k g.first g.second) ≡ g.first) × (second_of (of_kind k g.first g.second) ≡ g.second)
    go Add = (refl, refl)
    go Shift = (refl, refl)
    go Map = (refl, refl)
    go Look = (refl, refl)

-- no LOOK is left
pub no_next : (gs : List of.Gate) (w : ℕ) → None ≡ position (λ g. is_look (gate_of g)) gs → lookups_from w (gates_of gs) ≡ []
no_next gs w e =
    none_before gs w
    (⊎_elim
    (λ (t : ltb (before gs) (length gs) ≡ true). absurd (none-some (before gs) (e ∙ ap (λ b. cond b (Some (before gs)) None) t)))
    (λ (t : ltb (before gs) (length gs) ≡ false). ltb-false (before gs) (length gs) t)
    (cases_Bool (ltb (before gs) (length gs))))

-- gate k is the next LOOK
pub next_is : (gs : List of.Gate) (w k : ℕ) → Some k ≡ position (λ g. is_look (gate_of g)) gs
    → lookups_from w (gates_of gs) ≡ record { wire = w + k; operand = (get_or gs k no_gate).first; table = (get_or gs k no_gate).second }
    ∷ lookups_from (w + k + 1) (gates_of (take (length gs - (k + 1)) (drop (k + 1) gs)))
next_is gs w k e =
    let here = cond_some (ltb (before gs) (length gs)) (before gs) k (sym e) in
    let g = get_or gs k no_gate in
    let is = operands_are g in
    let more : suc k ≡ k + 1 = omega arith in
    subst (Next gs w) here.1 (some_before gs w (ltb-true (before gs) (length gs) here.0))
    ∙ ap₂ (λ f s. record { wire = w + k; operand = f; table = s } ∷ lookups_from (w + k + 1) (gates_of (drop (suc k) gs))) is.0 is.1
    ∙ ap (λ xs. record { wire = w + k; operand = g.first; table = g.second } ∷ lookups_from (w + k + 1) (gates_of xs)) (ap (λ n. drop n gs) more ∙ sym (take_rest gs (k + 1)))

-- LOOK gate l of a valid net reads an earlier wire and one of the tables.
pub record LookWired (net : Net) (l : ℕ) : Type 0 where
  pub wire : (lookup_at net l).wire < wires net
  pub operand : (lookup_at net l).operand < (lookup_at net l).wire
  pub table : (lookup_at net l).table < table_count net

pub look_wired : (net : Net) → Valid net → (l : ℕ) → l < look_total net → LookWired net l
look_wired net valid l h =
    let (k, f, t, in_gates, is, order) = look_of net l h in
    let at = look_at net k f t in_gates is in
    let gate = gate_at net k in
    let first : f < inputs net + k = subst (λ (g : Gate). first_of g < inputs net + k) is (valid.wired k in_gates).0 in
    let second : t < table_count net = subst (λ (g : Gate). second_of g < limit net.size (row_count net) (table_count net) (inputs net + k) g) is (valid.wired k in_gates).1 in
    subst (LookWired net) order
    record { wire = omega (arith, at.wire); operand = omega (arith, at.wire, at.operand); table = omega (arith, at.table) }

-- A loop over the LOOK gates, as `for (i, lookup) in circuit.lookups().enumerate()`: l of them came, `left` are left. Its
-- invariant says `l.i-iterator.iter ≡ drop l.i-iterator.count (lookups net)`.
module _ (net : Net) (l : ℕ) (left : List Lookup) (so : left ≡ drop l (lookups net)) where
  -- the next one is LOOK gate l
  pub look_turn : (x : Lookup) (rest : List Lookup) → left ≡ x ∷ rest → (l < look_total net) × (lookup_at net l ≡ x) × (rest ≡ drop (l + 1) (lookups net))
  look_turn x rest e =
      let all = lookups net in
      let long = lookups_length net in
      let here : l < length all = omega (arith, length-drop l all, ap length so, ap length e) in
      let none : Lookup = record { wire = 0; operand = 0; table = 0 } in
      let next = sym e ∙ so ∙ drop_more all l none here in (
        omega arith,
        sym (ap (λ xs. get_or xs 0 none) next),
        ap (λ xs. drop 1 xs) next,
      )

  -- there is none
  pub look_end : left ≡ [] → look_total net ≤ l
  look_end e = omega (arith, lookups_length net, length-drop l (lookups net), ap length so, ap length e)
