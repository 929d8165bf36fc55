-- What is sent in an honest run, and the log that it makes: one without errors, whose first run is the clear run.
use Rattle.std.proofs.Common.{◌≡◌, ℕ, ◌+◌, ◌*◌, ◌<◌, Bool, true, false, cond, eqb, ltb, List, [], ◌∷◌, ◌++◌, map, length, take, drop, sym, refl, ap, ◌∙◌, subst, ap₂, arith}
use Rattle.std.specs.List.{range_with_len}
use Rattle.std.proofs.lemmas.List.{map-append, take-map, drop-map}
use Rattle.std.proofs.lemmas.Bool.{eqb-true, lt-ltb}
use Rattle.std.proofs.lemmas.List.FromFn.{get_or-map-range_with_len, fill_by_all}
use Rattle.groups.specs.Group.{Group, Laws, Codes, sub}
use Rattle.groups.specs.Total.{total}
use Rattle.model.specs.Words.{at, each}
use Rattle.model.specs.Net.{Gate, adds, shifts, maps, looks, Net, Valid, inputs, gate_at, wires, ordinal, look_total, entry, step}
use Rattle.model.specs.Deal.{Deal, own_masks, Lawful, masks, column, others, block, part}
use Rattle.model.proofs.Listed.{at_each, length_each, codes_each, code_at}
use Rattle.model.specs.Clear.{clear, clearly}
use Rattle.model.proofs.Wires.{flow_input, flow_gate, entry_code}
use Rattle.model.proofs.Lookups.{look_at}
use Rattle.model.proofs.Sums.{column_code, others_codes}
use Rattle.model.proofs.Masks as mk
use Rattle.model.proofs.Masks.{own_length}
use Rattle.std.proofs.lemmas.List as ls
use Rattle.secrecy.specs.Evaluation.{Given, missing, entered, taken, Log, given_at, first_value, error, looked, first, Fair, Sane}
use Rattle.secrecy.specs.Honest.{other_parties, sends_share, masked_at, column_at}
use Rattle.secrecy.proofs.Algebra as alg
use Rattle.secrecy.proofs.Algebra.{Code}
use Rattle.secrecy.proofs.Runs as run
use Rattle.secrecy.proofs.Runs.{wire_ind}

-- the shares that the others send are their blocks' numbers
module _ (G : Group) (net : Net) (d : Deal) (ok : Lawful G net d) where
  pub part_share : (p k : ℕ) → sends_share net d k p ≡ at (block d.shares p) k
  unfolding part
  part_share p k =
      rw (← own_length p net.owners d.inputs ok.inputs_length) (ls.get_or-append-add (own_masks p net.owners d.inputs) (block d.shares p) k 0)

  sent_all : (k : ℕ) (ps : List ℕ) → map (sends_share net d k) ps ≡ map (λ b. at b k) (map (block d.shares) ps)
  sent_all k [] = refl
  sent_all k (p ∷ ps) = ap₂ (λ (x : ℕ) (xs : List ℕ). x ∷ xs) (part_share p k) (sent_all k ps)

  pub sent_column : (h k : ℕ) → map (sends_share net d k) (other_parties net h) ≡ column (others h d.shares) k
  sent_column h k =
      let cnt = range_with_len 0 net.parties in
      let all : d.shares ≡ map (block d.shares) cnt = fill_by_all (block d.shares) d.shares net.parties [] ok.shares_length (λ k l. refl) in
      sent_all k (other_parties net h)
      ∙ ap (map (λ b. at b k))
      (map-append (block d.shares) (take h cnt) (drop (h + 1) cnt)
      ∙ ap₂ (λ (x y : List (List ℕ)). x ++ y) (sym (take-map (block d.shares) h cnt)) (sym (drop-map (block d.shares) (h + 1) cnt))
      ∙ sym (ap (λ bs. others h bs) all))

module _ (G : Group) (laws : Laws G) (net : Net) (valid : Valid net) (same : G.size ≡ net.size) (h : ℕ) (own_party : h < net.parties)
    (d : Deal) (ok : Lawful G net d) (values : List ℕ) (long : length values ≡ inputs net) (codes : Codes G values) where
  abbrev pub sums_at : ℕ → ℕ
  sums_at l = total G (column (others h d.shares) (column_at G net d values l))

  abbrev pub gives_at : ℕ → Given
  gives_at w = cond (eqb (at net.owners w) h) (entered (at values w) (at values w)) (taken (G.add (at values w) (at d.inputs w)))

  abbrev pub F : Log
  F = record { given = each (inputs net) gives_at; heard = each (look_total net) sums_at; shared = look_total net; opened = true }

  pub given_at_lem : (w : ℕ) → w < inputs net → given_at F w ≡ gives_at w
  given_at_lem w l = get_or-map-range_with_len gives_at 0 (inputs net) w w missing l (omega arith)

  pub value_code : (w : ℕ) → Code G (at values w)
  value_code w = code_at G laws values codes w

  pub input_code : (w : ℕ) → Code G (at d.inputs w)
  input_code w = code_at G laws d.inputs ok.inputs_codes w

  pub sane : Sane G net h F
  sane =
      record {
        given = λ i l. subst (λ (g : Given). Fair G net h i g) (sym (given_at_lem i l)) (fair i (eqb (at net.owners i) h) refl);
        heard = codes_each G (look_total net) sums_at (λ l _. column_code G laws (others h d.shares) (column_at G net d values l) (others_codes G laws h d.shares (mk.blocks G laws net valid same d ok)));
      }
    where
      fair : (i : ℕ) (b : Bool) → eqb (at net.owners i) h ≡ b → Fair G net h i (cond b (entered (at values i) (at values i)) (taken (G.add (at values i) (at d.inputs i))))
      fair i true e = (eqb-true (at net.owners i) h e, value_code i, value_code i)
      fair i false e = laws.add_code (at values i) (at d.inputs i) (value_code i) (input_code i)

  abbrev X : List ℕ
  X = first G net h (record { given = each (inputs net) gives_at; heard = each (look_total net) sums_at; shared = look_total net; opened = true }) d

  abbrev C : List ℕ
  C = clear G net values

  clear_gate : (k : ℕ) → k < length net.gates → (g : Gate) → gate_at net k ≡ g → at C (inputs net + k) ≡ step G net (clearly G net) (ordinal net k) C g
  clear_gate = flow_gate net valid G (clearly G net) values long

  input_value : (i : ℕ) (b : Bool) → first_value G (at d.inputs i) (cond b (entered (at values i) (at values i)) (taken (G.add (at values i) (at d.inputs i)))) ≡ at values i
  input_value i true = refl
  input_value i false = alg.unmask G laws (at values i) (at d.inputs i) (value_code i) (input_code i)

  no_error : (k f t : ℕ) → k < length net.gates → gate_at net k ≡ looks f t → at X f ≡ at C f
      → looked G net F (ordinal net k) t (at X f) (error G net h F d (ordinal net k) (G.add (at X f) (at (masks G net d) f))) ≡ entry net t (at C f)
  unfolding error
  no_error k f t l g e =
      let l' = ordinal net k in
      let a = look_at net k f t l g in
      let c = column_code G laws (others h d.shares) (column_at G net d values l') (others_codes G laws h d.shares (mk.blocks G laws net valid same d ok)) in
      let col : column_at G net d values l' ≡ l' * net.size + G.add (at X f) (at (masks G net d) f)
      = ap (λ o. l' * net.size + masked_at G net d values o) a.operand ∙ ap (λ x. l' * net.size + G.add x (at (masks G net d) f)) (sym e) in
      let hd : at F.heard l' ≡ sums_at l' = at_each (look_total net) sums_at l' a.small in
      let diff : sub G (at F.heard l') (total G (column (others h d.shares) (l' * net.size + G.add (at X f) (at (masks G net d) f)))) ≡ 0
      = ap₂ (λ x y. sub G x y) hd (ap (λ k. total G (column (others h d.shares) k)) (sym col)) ∙ laws.neg_right (sums_at l') c in
      let t₁ = lt-ltb l' (look_total net) a.small in
      let n : l' < length F.heard = rw (length_each (look_total net) sums_at) a.small in
      let t₂ = lt-ltb l' (length F.heard) n in
      ap (λ b. cond b (G.add (entry net t (at X f)) (cond (ltb l' (length F.heard)) (sub G (at F.heard l') (total G (column (others h d.shares) (l' * net.size + G.add (at X f) (at (masks G net d) f))))) 0)) 0) t₁
      ∙ ap (λ b. G.add (entry net t (at X f)) (cond b (sub G (at F.heard l') (total G (column (others h d.shares) (l' * net.size + G.add (at X f) (at (masks G net d) f))))) 0)) t₂
      ∙ ap (G.add (entry net t (at X f))) diff ∙ laws.zero_right _ (entry_code G laws net valid same t (at X f)) ∙ ap (entry net t) e

  pub first_is_clear : (i : ℕ) → i < wires net → at X i ≡ at C i
  first_is_clear =
      wire_ind G laws net valid same (λ i. at X i ≡ at C i)
      (λ i l.
      run.first_input G laws net valid same h F sane d ok i l ∙ ap (first_value G (at d.inputs i)) (given_at_lem i l) ∙ input_value i (eqb (at net.owners i) h)
      ∙ sym (flow_input net valid G (clearly G net) values long i l))
      (λ k f s l g _ _ p q. let a = gate k l (adds f s) g in let b = clear_gate k l (adds f s) g in cc)
      (λ k f c l g _ _ p. let a = gate k l (shifts f c) g in let b = clear_gate k l (shifts f c) g in cc)
      (λ k f m l g _ _ p. let a = gate k l (maps f m) g in let b = clear_gate k l (maps f m) g in cc)
      (λ k f t l g _ _ p. gate k l (looks f t) g ∙ no_error k f t l g p ∙ sym (clear_gate k l (looks f t) g))
    where
      gate : (k : ℕ) → k < length net.gates → (g : Gate) → gate_at net k ≡ g → at X (inputs net + k) ≡ step G net (run.x_rules G laws net valid same h F sane d ok) (ordinal net k) X g
      gate = run.first_gate G laws net valid same h F sane d ok
