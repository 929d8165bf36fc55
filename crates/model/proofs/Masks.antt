-- The masks of a lawful deal.
use Rattle.std.proofs.Common.{◌≡◌, ℕ, zero, suc, ◌+◌, ◌-◌, ◌/◌, ◌%◌, ◌<◌, Bool, true, false, cond, eqb, ltb, List, [], ◌∷◌, length, take, refl, ◌∙◌, ap₂, zero-add, one-add, arith}
use Rattle.std.proofs.lemmas.List.{get_or_append_left, get_or-append-add, length-append}
use Rattle.std.proofs.lemmas.Bool.{eq-eqb, eqb-true}
use Rattle.groups.specs.Group.{Group, Laws, Codes}
use Rattle.groups.specs.Kept.{codes_append, codes_cons, codes_none, codes_head, codes_tail}
use Rattle.model.specs.Words.{at, each, mark}
use Rattle.model.specs.Net.{Gate, Net, Valid, inputs, wires, gate_at, ordinal, lookup_at, step, flow}
use Rattle.model.specs.Deal.{Deal, Lawful, masking, masks, owed, owed_at, cells, columns, block, cell, owned, own_masks, part, part_length}
use Rattle.model.proofs.Listed.{at_each, codes_each, code_at}
use Rattle.model.proofs.Wires.{flow_length, flow_input, flow_gate, flow_code, entry_code}
use Rattle.model.proofs.Sums.{Blocks}

-- the shares have no part in the masks
pub masks_by : (G : Group) (net : Net) (d e : Deal) → d.inputs ≡ e.inputs → d.looks ≡ e.looks → masks G net d ≡ masks G net e
unfolding masks
masks_by G net d e p q = ap₂ (λ ls ins. flow G net (masking ls) ins) q p

-- the equation of each wire's mask
module _ (G : Group) (net : Net) (valid : Valid net) (d : Deal) (e : length d.inputs ≡ inputs net) where
  pub masks_length : length (masks G net d) ≡ wires net
  unfolding masks
  masks_length = flow_length net valid G (masking d.looks) d.inputs e

  pub mask_input : (i : ℕ) → i < inputs net → at (masks G net d) i ≡ at d.inputs i
  unfolding masks
  mask_input = flow_input net valid G (masking d.looks) d.inputs e

  pub mask_gate : (k : ℕ) → k < length net.gates → (g : Gate) → gate_at net k ≡ g
      → at (masks G net d) (inputs net + k) ≡ step G net (masking d.looks) (ordinal net k) (masks G net d) g
  unfolding masks
  mask_gate = flow_gate net valid G (masking d.looks) d.inputs e

module _ (G : Group) (laws : Laws G) (net : Net) (valid : Valid net) (same : G.size ≡ net.size) where
  -- masks are codes, and so is what they owe
  pub masks_code : (d : Deal) → length d.inputs ≡ inputs net → Codes G d.inputs → Codes G d.looks → (i : ℕ) → at (masks G net d) i < G.size
  unfolding masks
  masks_code d e ins looks =
      flow_code G laws net valid same (masking d.looks) d.inputs e ins (λ c x _ hx. hx) (λ l f t x _. code_at G laws d.looks looks l)

  pub owed_code : (m : List ℕ) → ((i : ℕ) → at m i < G.size) → (k : ℕ) → at (owed G net m) k < G.size
  unfolding owed
  owed_code m c = code_at G laws (each (columns net) (owed_at G net m)) (codes_each G (columns net) _ (λ k _. one k (ltb k (cells net))))
    where
      one : (k : ℕ) (b : Bool) → cond b (cell G net m (lookup_at net (k / net.size)) (k % net.size)) (at m (at net.outputs (k - cells net))) < G.size
      one k true = laws.add_code _ _ (entry_code G laws net valid same _ _) (c _)
      one k false = c _

  module _ (d : Deal) (ok : Lawful G net d) where
    pub mask_code : (i : ℕ) → at (masks G net d) i < G.size
    mask_code = masks_code d ok.inputs_length ok.inputs_codes ok.looks_codes

    pub masks_codes : Codes G (masks G net d)
    masks_codes k l = mask_code k

    pub blocks : Blocks G d.shares
    blocks p l = ok.block_codes p (rw ok.shares_length at l)

-- what is owed at a column
pub owed_at_lem : (G : Group) (net : Net) (m : List ℕ) (k : ℕ) → k < columns net → at (owed G net m) k ≡ owed_at G net m k
unfolding owed
owed_at_lem G net m k l = at_each (columns net) (owed_at G net m) k l

-- the place of an own wire's mask among the own masks
own_at : (h : ℕ) (os ms : List ℕ) (w : ℕ) → length ms ≡ length os → w < length os → at os w ≡ h
    → (owned h (take w os) < length (own_masks h os ms)) × (at (own_masks h os ms) (owned h (take w os)) ≡ at ms w)
unfolding own_masks
own_at h [] ms w e l o = absurd (omega arith)
own_at h (p ∷ os) [] w e l o = absurd (omega arith)
own_at h (p ∷ os) (m ∷ ms) zero e l o = rw (eq-eqb p h o) (omega arith, refl)
own_at h (p ∷ os) (m ∷ ms) (suc w) e l o =
    let r = own_at h os ms w (omega arith) (omega arith) o in
    step' (eqb p h) (own_masks h os ms) (owned h (take w os)) r.0 r.1
  where
    step' : (b : Bool) (r : List ℕ) (s : ℕ) → s < length r → at r s ≡ at ms w
        → (mark b + s < length (cond b (m ∷ r) r)) × (at (cond b (m ∷ r) r) (mark b + s) ≡ at ms w)
    step' true r s l e = (omega arith, rw (one-add s) e)
    step' false r s l e = (omega arith, rw (zero-add s) e)

pub own_length : (h : ℕ) (os ms : List ℕ) → length ms ≡ length os → length (own_masks h os ms) ≡ owned h os
unfolding own_masks
own_length h [] ms e = refl
own_length h (p ∷ os) [] e = absurd (omega arith)
own_length h (p ∷ os) (m ∷ ms) e = step' (eqb p h) (own_masks h os ms) (own_length h os ms (omega arith))
  where
    step' : (b : Bool) (r : List ℕ) → length r ≡ owned h os → length (cond b (m ∷ r) r) ≡ mark b + owned h os
    step' true r e = omega arith
    step' false r e = omega arith

-- a party whose wires have the same masks has the same own masks
pub own_same : (p : ℕ) (os ms ns : List ℕ) → length ms ≡ length os → length ns ≡ length os
    → ((i : ℕ) → i < length os → at os i ≡ p → at ms i ≡ at ns i) → own_masks p os ms ≡ own_masks p os ns
unfolding own_masks
own_same p [] ms ns a b e = refl
own_same p (o ∷ os) [] ns a b e = absurd (omega arith)
own_same p (o ∷ os) (m ∷ ms) [] a b e = absurd (omega arith)
own_same p (o ∷ os) (m ∷ ms) (n ∷ ns) a b e =
    step' (eqb o p) (own_masks p os ms) (own_masks p os ns) (λ t. e 0 (omega arith) (eqb-true o p t))
    (own_same p os ms ns (omega arith) (omega arith) (λ i l q. e (suc i) (omega arith) q))
  where
    step' : (b : Bool) (xs ys : List ℕ) → (b ≡ true → m ≡ n) → xs ≡ ys → cond b (m ∷ xs) xs ≡ cond b (n ∷ ys) ys
    step' true xs ys e f = ap₂ (λ (x : ℕ) (r : List ℕ). x ∷ r) (e refl) f
    step' false xs ys e f = f

own_codes : (G : Group) (h : ℕ) (os ms : List ℕ) → Codes G ms → Codes G (own_masks h os ms)
unfolding own_masks
own_codes G h [] ms c = codes_none G
own_codes G h (p ∷ os) [] c = codes_none G
own_codes G h (p ∷ os) (m ∷ ms) c = step' (eqb p h) (own_masks h os ms) (codes_head G m ms c) (own_codes G h os ms (codes_tail G m ms c))
  where
    step' : (b : Bool) (r : List ℕ) → m < G.size → Codes G r → Codes G (cond b (m ∷ r) r)
    step' true r cm c = codes_cons G m r cm c
    step' false r cm c = c

-- where a part has the mask of an own wire, and where the own block
module _ (G : Group) (net : Net) (h : ℕ) (own : h < net.parties) (d : Deal) (ok : Lawful G net d) where
  pub part_mask : (w : ℕ) → w < inputs net → at net.owners w ≡ h → at (part net h d) (owned h (take w net.owners)) ≡ at d.inputs w
  unfolding part
  part_mask w l o =
      let r = own_at h net.owners d.inputs w ok.inputs_length l o in
      get_or_append_left (own_masks h net.owners d.inputs) (block d.shares h) 0 (owned h (take w net.owners)) r.0 ∙ r.1

  pub part_own : (k : ℕ) → at (part net h d) (owned h net.owners + k) ≡ at (block d.shares h) k
  unfolding part
  part_own k =
      rw (← own_length h net.owners d.inputs ok.inputs_length) (get_or-append-add (own_masks h net.owners d.inputs) (block d.shares h) k 0)

  pub part_length_lem : length (part net h d) ≡ part_length net h
  unfolding part
  part_length_lem =
      length-append (own_masks h net.owners d.inputs) (block d.shares h)
      ∙ ap₂ (λ a b. a + b) (own_length h net.owners d.inputs ok.inputs_length) (ok.block_length h own)

  pub part_codes : Codes G (part net h d)
  unfolding part
  part_codes =
      codes_append G (own_masks h net.owners d.inputs) (block d.shares h) (own_codes G h net.owners d.inputs ok.inputs_codes) (ok.block_codes h own)
