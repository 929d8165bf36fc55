-- The masks and the two clear runs of an evaluation: codes, and the equation of each wire.
use Rattle.std.proofs.Common.{◌≡◌, ℕ, ◌+◌, ◌*◌, ◌<◌, Bool, true, false, cond, ltb, List, length, ◌∙◌}
use Rattle.groups.specs.Group.{Group, Laws, Codes, sub}
use Rattle.groups.specs.Total.{total}
use Rattle.model.specs.Words.{at, each}
use Rattle.model.specs.Net.{Gate, adds, shifts, maps, looks, Net, Valid, Rules, inputs, gate_at, wires, row, table_count, entry, ordinal, step}
use Rattle.model.specs.Deal.{Deal, Lawful, masking, masks, column, others}
use Rattle.model.proofs.Listed.{at_each, length_each, codes_each, code_at}
use Rattle.model.proofs.Wires as wr
use Rattle.model.proofs.Wires.{flow_input, flow_gate, flow_code, row_codes, entry_code}
use Rattle.model.proofs.Sums.{Blocks, column_code, others_codes}
use Rattle.model.proofs.Masks as mk
use Rattle.secrecy.specs.Evaluation.{Given, missing, entered, taken, Log, given_at, first_value, second_value, error, looked, first_rules, second_rules, first, second, shift, Fair, Sane}
use Rattle.secrecy.proofs.Algebra as alg
use Rattle.secrecy.proofs.Algebra.{Code}

module _ (G : Group) (laws : Laws G) (net : Net) (valid : Valid net) (same : G.size ≡ net.size) where
  -- a fact of every wire, with what the group knows of each gate
  pub wire_ind : (P : ℕ → Type 0) → ((i : ℕ) → i < inputs net → P i)
      → ((k f s : ℕ) → k < length net.gates → gate_at net k ≡ adds f s → f < inputs net + k → s < inputs net + k → P f → P s → P (inputs net + k))
      → ((k f c : ℕ) → k < length net.gates → gate_at net k ≡ shifts f c → f < inputs net + k → Code G c → P f → P (inputs net + k))
      → ((k f m : ℕ) → k < length net.gates → gate_at net k ≡ maps f m → f < inputs net + k → Codes G (row net m) → P f → P (inputs net + k))
      → ((k f t : ℕ) → k < length net.gates → gate_at net k ≡ looks f t → f < inputs net + k → t < table_count net → P f → P (inputs net + k))
      → (i : ℕ) → i < wires net → P i
  wire_ind P ins add shift map' look =
      wr.wire_ind net valid P ins add (λ k f c l g r b. shift k f c l g r (rw same b)) (λ k f m l g r b. map' k f m l g r (row_codes G laws net valid same m)) look

  module _ (h : ℕ) (log : Log) (sane : Sane G net h log) (d : Deal) (ok : Lawful G net d) where
    abbrev pub M : List ℕ
    M = masks G net d

    abbrev pub X : List ℕ
    X = first G net h log d

    abbrev pub Y : List ℕ
    Y = second G net h log d

    pub mask_code : (i : ℕ) → Code G (at M i)
    mask_code = mk.mask_code G laws net valid same d ok

    pub mask_input : (i : ℕ) → i < inputs net → at M i ≡ at d.inputs i
    mask_input = mk.mask_input G net valid d ok.inputs_length

    pub mask_gate : (k : ℕ) → k < length net.gates → (g : Gate) → gate_at net k ≡ g → at M (inputs net + k) ≡ step G net (masking d.looks) (ordinal net k) M g
    mask_gate = mk.mask_gate G net valid d ok.inputs_length

    pub blocks : Blocks G d.shares
    blocks = mk.blocks G laws net valid same d ok

    pub rest_code : (k : ℕ) → Code G (total G (column (others h d.shares) k))
    rest_code k = column_code G laws (others h d.shares) k (others_codes G laws h d.shares blocks)

    pub error_code : (l c : ℕ) → Code G (error G net h log d l c)
    unfolding error
    error_code l c = go (ltb l (length log.heard))
      where
        go : (b : Bool) → Code G (cond b (sub G (at log.heard l) (total G (column (others h d.shares) (l * net.size + c)))) 0)
        go true = alg.sub_code G laws _ _ (code_at G laws log.heard sane.heard l) (rest_code (l * net.size + c))
        go false = alg.zero_code G laws

    pub looked_code : (l t x e : ℕ) → Code G e → Code G (looked G net log l t x e)
    looked_code l t x e c = go (ltb l log.shared)
      where
        go : (b : Bool) → Code G (cond b (G.add (entry net t x) e) 0)
        go true = laws.add_code _ _ (entry_code G laws net valid same t x) c
        go false = alg.zero_code G laws

    first_value_lem : (m : ℕ) → Code G m → (i : ℕ) (g : Given) → Fair G net h i g → Code G (first_value G m g)
    first_value_lem m c i missing f = alg.zero_code G laws
    first_value_lem m c i (entered a b) f = f.1
    first_value_lem m c i (taken x) f = alg.sub_code G laws x m f c

    second_value_lem : (m : ℕ) → Code G m → (i : ℕ) (g : Given) → Fair G net h i g → Code G (second_value G m g)
    second_value_lem m c i missing f = alg.zero_code G laws
    second_value_lem m c i (entered a b) f = f.2
    second_value_lem m c i (taken x) f = alg.sub_code G laws x m f c

    abbrev pub x_rules : Rules
    x_rules = first_rules G net h log d

    abbrev pub y_rules : Rules
    y_rules = second_rules G net h log d

    abbrev first_ins : List ℕ
    first_ins = each (inputs net) (λ i. first_value G (at d.inputs i) (given_at log i))

    abbrev second_ins : List ℕ
    second_ins = each (inputs net) (λ i. second_value G (at d.inputs i) (given_at log i))

    pub first_code : (i : ℕ) → Code G (at X i)
    unfolding first
    first_code =
        flow_code G laws net valid same x_rules first_ins (length_each (inputs net) _)
        (codes_each G (inputs net) _ (λ i l. first_value_lem (at d.inputs i) (code_at G laws d.inputs ok.inputs_codes i) i (given_at log i) (sane.given i l)))
        (λ c x hc hx. laws.add_code x c hx hc)
        (λ l f t x hx. looked_code l t x _ (error_code l _))

    pub second_code : (i : ℕ) → Code G (at Y i)
    unfolding second
    second_code =
        flow_code G laws net valid same y_rules second_ins (length_each (inputs net) _)
        (codes_each G (inputs net) _ (λ i l. second_value_lem (at d.inputs i) (code_at G laws d.inputs ok.inputs_codes i) i (given_at log i) (sane.given i l)))
        (λ c x hc hx. laws.add_code x c hx hc)
        (λ l f t x hx. looked_code l t x _ (error_code l _))

    pub first_input : (i : ℕ) → i < inputs net → at X i ≡ first_value G (at d.inputs i) (given_at log i)
    unfolding first
    first_input i l = flow_input net valid G x_rules first_ins (length_each (inputs net) _) i l ∙ at_each (inputs net) _ i l

    pub second_input : (i : ℕ) → i < inputs net → at Y i ≡ second_value G (at d.inputs i) (given_at log i)
    unfolding second
    second_input i l = flow_input net valid G y_rules second_ins (length_each (inputs net) _) i l ∙ at_each (inputs net) _ i l

    pub first_gate : (k : ℕ) → k < length net.gates → (g : Gate) → gate_at net k ≡ g → at X (inputs net + k) ≡ step G net x_rules (ordinal net k) X g
    unfolding first
    first_gate = flow_gate net valid G x_rules first_ins (length_each (inputs net) _)

    pub second_gate : (k : ℕ) → k < length net.gates → (g : Gate) → gate_at net k ≡ g → at Y (inputs net + k) ≡ step G net y_rules (ordinal net k) Y g
    unfolding second
    second_gate = flow_gate net valid G y_rules second_ins (length_each (inputs net) _)
