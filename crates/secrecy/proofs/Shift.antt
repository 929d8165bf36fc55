-- The shift of a deal: it is lawful, and leaves the others' blocks.
use Rattle.std.proofs.Common.{◌≡◌, ℕ, ◌+◌, ◌<◌, ◌⊎◌, List, [], length, sym, refl, ap, ◌∙◌, subst, inl, inr}
use Rattle.std.proofs.lemmas.List.{get_or-set_same, get_or-set_other, length-set}
use Rattle.std.proofs.lemmas.Bool.{cases_eq}
use Rattle.groups.specs.Group.{Group, Laws, Codes, sub}
use Rattle.groups.specs.Total.{total}
use Rattle.model.specs.Words.{at, each}
use Rattle.model.specs.Net.{Gate, adds, shifts, maps, looks, Net, Valid, inputs, gate_at, wires, row, ordinal, look_total, lookup_at, step}
use Rattle.model.specs.Deal.{Deal, Lawful, masking, masks, owed, columns, column, block, others}
use Rattle.model.proofs.Listed.{at_each, length_each, codes_each, code_at}
use Rattle.model.proofs.Wires.{flow_input, flow_gate, flow_code}
use Rattle.model.proofs.Lookups.{look_at}
use Rattle.model.proofs.Sums.{Blocks, column_split, others_set}
use Rattle.model.proofs.Masks.{masks_by, owed_code}
use Rattle.secrecy.specs.Evaluation.{Given, missing, entered, taken, Log, given_at, first, second, moved, shift, Fair, Sane}
use Rattle.secrecy.proofs.Algebra as alg
use Rattle.secrecy.proofs.Algebra.{Code}
use Rattle.secrecy.proofs.Runs as run
use Rattle.secrecy.proofs.Runs.{wire_ind}

module _ (G : Group) (laws : Laws G) (net : Net) (valid : Valid net) (same : G.size ≡ net.size) where
  module _ (h : ℕ) (log : Log) (sane : Sane G net h log) (d : Deal) (ok : Lawful G net d) where
    abbrev M : List ℕ
    M = masks G net d

    abbrev X : List ℕ
    X = first G net h log d

    abbrev Y : List ℕ
    Y = second G net h log d

    abbrev d' : Deal
    d' = shift G net h log d

    abbrev M' : List ℕ
    M' = masks G net (shift G net h log d)

    m_code : (i : ℕ) → Code G (at M i)
    m_code = run.mask_code G laws net valid same h log sane d ok

    x_code : (i : ℕ) → Code G (at X i)
    x_code = run.first_code G laws net valid same h log sane d ok

    y_code : (i : ℕ) → Code G (at Y i)
    y_code = run.second_code G laws net valid same h log sane d ok

    pub shift_input : (i : ℕ) → i < inputs net → at d'.inputs i ≡ G.add (at d.inputs i) (sub G (at X i) (at Y i))
    unfolding shift moved
    shift_input i l = at_each (inputs net) _ i l

    pub shift_look : (l : ℕ) → l < look_total net
        → at d'.looks l ≡ G.add (at d.looks l) (sub G (at X (lookup_at net l).wire) (at Y (lookup_at net l).wire))
    unfolding shift moved
    shift_look l s = at_each (look_total net) _ l s

    inputs_length' : length d'.inputs ≡ inputs net
    unfolding shift moved
    inputs_length' = length_each (inputs net) _

    mask_input' : (i : ℕ) → i < inputs net → at M' i ≡ at d'.inputs i
    unfolding masks
    mask_input' = flow_input net valid G (masking d'.looks) d'.inputs inputs_length'

    mask_gate' : (k : ℕ) → k < length net.gates → (g : Gate) → gate_at net k ≡ g → at M' (inputs net + k) ≡ step G net (masking d'.looks) (ordinal net k) M' g
    unfolding masks
    mask_gate' = flow_gate net valid G (masking d'.looks) d'.inputs inputs_length'

    -- every mask is moved by the difference of the runs
    pub moved_mask : (i : ℕ) → i < wires net → at M' i ≡ G.add (at M i) (sub G (at X i) (at Y i))
    moved_mask =
        wire_ind G laws net valid same (λ i. at M' i ≡ G.add (at M i) (sub G (at X i) (at Y i)))
        (λ i l. mask_input' i l ∙ shift_input i l ∙ ap (λ v. G.add v (sub G (at X i) (at Y i))) (sym (mask_in i l)))
        (λ k f s l g _ _ p q.
        let a = mask_gate' k l (adds f s) g in
        let b = mask_gate k l (adds f s) g in
        let c = first_gate k l (adds f s) g in
        let e = second_gate k l (adds f s) g in
        let m = alg.move_add G laws (at M f) (at X f) (at Y f) (at M s) (at X s) (at Y s) (m_code f) (x_code f) (y_code f) (m_code s) (x_code s) (y_code s) in
        cc)
        (λ k f s l g _ hc p.
        let a = mask_gate' k l (shifts f s) g in
        let b = mask_gate k l (shifts f s) g in
        let c = first_gate k l (shifts f s) g in
        let e = second_gate k l (shifts f s) g in
        let m = alg.move_shift G laws (at M f) (at X f) (at Y f) s (m_code f) (x_code f) (y_code f) hc in
        cc)
        (λ k f s l g _ hom p.
        let a = mask_gate' k l (maps f s) g in
        let b = mask_gate k l (maps f s) g in
        let c = first_gate k l (maps f s) g in
        let e = second_gate k l (maps f s) g in
        let m = alg.move_map G laws (row net s) hom (at M f) (at X f) (at Y f) (m_code f) (x_code f) (y_code f) in
        cc)
        (λ k f t l g _ _ p.
        let here = look_at net k f t l g in
        let a = mask_gate' k l (looks f t) g in
        let b = mask_gate k l (looks f t) g in
        let w = here.wire in
        let s = shift_look (ordinal net k) here.small in
        cc)
      where
        mask_in : (i : ℕ) → i < inputs net → at M i ≡ at d.inputs i
        mask_in = run.mask_input G laws net valid same h log sane d ok

        mask_gate : (k : ℕ) → k < length net.gates → (g : Gate) → gate_at net k ≡ g → at M (inputs net + k) ≡ step G net (masking d.looks) (ordinal net k) M g
        mask_gate = run.mask_gate G laws net valid same h log sane d ok

        first_gate : (k : ℕ) → k < length net.gates → (g : Gate) → gate_at net k ≡ g → at X (inputs net + k) ≡ step G net (run.x_rules G laws net valid same h log sane d ok) (ordinal net k) X g
        first_gate = run.first_gate G laws net valid same h log sane d ok

        second_gate : (k : ℕ) → k < length net.gates → (g : Gate) → gate_at net k ≡ g → at Y (inputs net + k) ≡ step G net (run.y_rules G laws net valid same h log sane d ok) (ordinal net k) Y g
        second_gate = run.second_gate G laws net valid same h log sane d ok

    masks_moved : masks G net (moved G net h log d) ≡ M'
    unfolding shift
    masks_moved = masks_by G net (moved G net h log d) (shift G net h log d) refl refl

    m_code' : (i : ℕ) → Code G (at M' i)
    unfolding masks shift moved
    m_code' =
        flow_code G laws net valid same (masking d'.looks) d'.inputs inputs_length'
        (codes_each G (inputs net) _ (λ i _. laws.add_code _ _ (code_at G laws d.inputs ok.inputs_codes i) (alg.sub_code G laws _ _ (x_code i) (y_code i))))
        (λ c x _ hx. hx)
        (λ l f t x _. code_at G laws d'.looks
        (codes_each G (look_total net) _ (λ i _. laws.add_code _ _ (code_at G laws d.looks ok.looks_codes i) (alg.sub_code G laws _ _ (x_code _) (y_code _)))) l)

    -- a mask that is not moved
    pub kept_input : (i : ℕ) → i < inputs net → at X i ≡ at Y i → at d'.inputs i ≡ at d.inputs i
    kept_input i l e =
        shift_input i l ∙ ap (λ v. G.add (at d.inputs i) (sub G (at X i) v)) (sym e)
        ∙ alg.still G laws (at d.inputs i) (at X i) (code_at G laws d.inputs ok.inputs_codes i) (x_code i)

    same_inputs : (i : ℕ) → i < inputs net → (g : Given) → given_at log i ≡ g → Fair G net h i g → (at net.owners i ≡ h → ⊥) → at X i ≡ at Y i
    same_inputs i l missing e f n = let a = run.first_input G laws net valid same h log sane d ok i l in let b = run.second_input G laws net valid same h log sane d ok i l in cc
    same_inputs i l (entered a b) e f n = absurd (n f.0)
    same_inputs i l (taken c) e f n = let a = run.first_input G laws net valid same h log sane d ok i l in let b = run.second_input G laws net valid same h log sane d ok i l in cc

    pub others_inputs : (i : ℕ) → i < inputs net → (at net.owners i ≡ h → ⊥) → at d'.inputs i ≡ at d.inputs i
    others_inputs i l n = kept_input i l (same_inputs i l (given_at log i) refl (sane.given i l) n)

    pub others_shares : others h d'.shares ≡ others h d.shares
    unfolding shift
    others_shares = others_set h d.shares _

    pub others_blocks : (p : ℕ) → (p ≡ h → ⊥) → block d'.shares p ≡ block d.shares p
    unfolding shift
    others_blocks p n = get_or-set_other d.shares h p _ [] n

    module _ (own : h < net.parties) where
      own_there : h < length d.shares
      own_there = rw ok.shares_length own

      abbrev new_block : List ℕ
      new_block =
          each (columns net)
          (λ k. G.add (at (block d.shares h) k) (sub G (at (owed G net (masks G net (moved G net h log d))) k) (at (owed G net M) k)))

      own_is : block d'.shares h ≡ new_block
      unfolding shift
      own_is = get_or-set_same d.shares h new_block [] own_there

      old_code : (k : ℕ) → Code G (at (block d.shares h) k)
      old_code = code_at G laws (block d.shares h) (ok.block_codes h own)

      pub own_block : (k : ℕ) → k < columns net
          → at (block d'.shares h) k ≡ G.add (at (block d.shares h) k) (sub G (at (owed G net M') k) (at (owed G net M) k))
      own_block k l = ap (λ b. at b k) own_is ∙ at_each (columns net) _ k l ∙ ap (λ m. G.add (at (block d.shares h) k) (sub G (at (owed G net m) k) (at (owed G net M) k))) masks_moved

      own_codes : Codes G (block d'.shares h)
      own_codes =
          rw own_is
          (codes_each G (columns net) _
          (λ k _. laws.add_code _ _ (old_code k)
          (alg.sub_code G laws _ _ (rw masks_moved (owed_code G laws net valid same M' m_code' k)) (owed_code G laws net valid same M m_code k))))

      block_length' : (p : ℕ) → p < net.parties → (p ≡ h) ⊎ (p ≡ h → ⊥) → length (block d'.shares p) ≡ columns net
      block_length' p l (inl e) = rw e (rw own_is (length_each (columns net) _))
      block_length' p l (inr n) = rw (others_blocks p n) (ok.block_length p l)

      block_codes' : (p : ℕ) → p < net.parties → (p ≡ h) ⊎ (p ≡ h → ⊥) → Codes G (block d'.shares p)
      block_codes' p l (inl e) = subst (λ (x : ℕ). Codes G (block d'.shares x)) (sym e) own_codes
      block_codes' p l (inr n) = subst (λ (b : List ℕ). Codes G b) (sym (others_blocks p n)) (ok.block_codes p l)

      shares_length' : length d'.shares ≡ net.parties
      unfolding shift
      shares_length' = length-set d.shares h new_block ∙ ok.shares_length

      blocks' : Blocks G d'.shares
      blocks' p l = block_codes' p (rw shares_length' at l) (cases_eq p h)

      sums' : (k : ℕ) → k < columns net → total G (column d'.shares k) ≡ at (owed G net M') k
      sums' k l =
          let rest = total G (column (others h d.shares) k) in
          let e : total G (column d'.shares k) ≡ G.add (at (block d'.shares h) k) rest
          = column_split G laws h d'.shares k (rw shares_length' own) blocks' ∙ ap (λ bs. G.add (at (block d'.shares h) k) (total G (column bs k))) others_shares in
          let s : G.add (at (block d.shares h) k) rest ≡ at (owed G net M) k
          = sym (column_split G laws h d.shares k own_there (run.blocks G laws net valid same h log sane d ok)) ∙ ok.sums k l in
          e ∙ ap (λ x. G.add x rest) (own_block k l)
          ∙ alg.raise G laws (at (block d.shares h) k) rest (at (owed G net M) k) (at (owed G net M') k) (old_code k)
          (run.rest_code G laws net valid same h log sane d ok k) (owed_code G laws net valid same M m_code k) (owed_code G laws net valid same M' m_code' k) s

      -- (b)
      pub lawful : Lawful G net (shift G net h log d)
      unfolding shift moved
      lawful =
          record {
            inputs_length = inputs_length';
            inputs_codes = codes_each G (inputs net) _ (λ i _. laws.add_code _ _ (code_at G laws d.inputs ok.inputs_codes i) (alg.sub_code G laws _ _ (x_code i) (y_code i)));
            looks_length = length_each (look_total net) _;
            looks_codes =
                codes_each G (look_total net) _ (λ i _. laws.add_code _ _ (code_at G laws d.looks ok.looks_codes i) (alg.sub_code G laws _ _ (x_code _) (y_code _)));
            shares_length = shares_length';
            block_length = λ p l. block_length' p l (cases_eq p h);
            block_codes = λ p l. block_codes' p l (cases_eq p h);
            sums = sums';
          }
