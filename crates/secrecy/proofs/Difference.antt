-- The difference of the two clear runs, along the gates.
use Rattle.std.proofs.Common.{◌≡◌, ℕ, ◌+◌, ◌<◌, Bool, true, false, cond, ltb, List, length, sym, ap, ◌∙◌}
use Rattle.groups.specs.Group.{Group, Laws, sub}
use Rattle.model.specs.Words.{at, each}
use Rattle.model.specs.Net.{Gate, adds, shifts, maps, looks, Net, Valid, Rules, inputs, gate_at, wires, row, entry, ordinal, step}
use Rattle.model.specs.Deal.{Deal, Lawful, masks}
use Rattle.model.proofs.Listed.{at_each, length_each, codes_each, code_at}
use Rattle.model.proofs.Wires.{flow_input, flow_gate, flow_code, entry_code}
use Rattle.secrecy.specs.Evaluation.{Given, missing, entered, taken, Log, given_at, first_value, second_value, error, first, second, between, differing, difference, Fair, Sane}
use Rattle.secrecy.proofs.Algebra as alg
use Rattle.secrecy.proofs.Algebra.{Code}
use Rattle.secrecy.proofs.Runs as run
use Rattle.secrecy.proofs.Runs.{wire_ind}

module _ (G : Group) (laws : Laws G) (net : Net) (valid : Valid net) (same : G.size ≡ net.size) (h : ℕ) (log : Log) (sane : Sane G net h log) (d : Deal) (ok : Lawful G net d) where
  abbrev X : List ℕ
  X = first G net h log d

  abbrev Y : List ℕ
  Y = second G net h log d

  between_code : (i : ℕ) (g : Given) → Fair G net h i g → Code G (between G g)
  between_code i missing f = alg.zero_code G laws
  between_code i (entered a b) f = alg.sub_code G laws a b f.1 f.2
  between_code i (taken c) f = alg.zero_code G laws

  look_code : (b : Bool) (u v : ℕ) → Code G u → Code G v → Code G (cond b (sub G u v) 0)
  look_code true u v cu cv = alg.sub_code G laws u v cu cv
  look_code false u v cu cv = alg.zero_code G laws

  difference_code : (i : ℕ) → Code G (at (difference G net h log d) i)
  difference_code =
      flow_code G laws net valid same _ (each (inputs net) (λ i. between G (given_at log i))) (length_each (inputs net) _)
      (codes_each G (inputs net) _ (λ i l. between_code i (given_at log i) (sane.given i l)))
      (λ c x _ cx. cx)
      (λ l f t x _. look_code (ltb l log.shared) _ _ (entry_code G laws net valid same t _) (entry_code G laws net valid same t _))

  input_sum : (m i : ℕ) → Code G m → (g : Given) → Fair G net h i g → first_value G m g ≡ G.add (second_value G m g) (between G g)
  input_sum m i cm missing f = sym (laws.zero_right 0 (alg.zero_code G laws))
  input_sum m i cm (entered a b) f = sym (laws.comm b (sub G a b) f.2 (alg.sub_code G laws a b f.1 f.2) ∙ alg.remask G laws a b f.1 f.2)
  input_sum m i cm (taken c) f = sym (laws.zero_right (sub G c m) (alg.sub_code G laws c m f cm))

  look_sum : (b : Bool) (u v e : ℕ) → Code G u → Code G v → Code G e → cond b (G.add u e) 0 ≡ G.add (cond b (G.add v e) 0) (cond b (sub G u v) 0)
  look_sum true u v e cu cv ce =
      let a = alg.slide G laws v (sub G u v) e cv (alg.sub_code G laws u v cu cv) ce in
      let b = laws.comm v (sub G u v) cv (alg.sub_code G laws u v cu cv) in
      let c = alg.remask G laws u v cu cv in
      cc
  look_sum false u v e cu cv ce = sym (laws.zero_right 0 (alg.zero_code G laws))

  -- by induction along the gates: the first run is the second with the difference added
  pub first_is : (i : ℕ) → i < wires net → at X i ≡ G.add (at Y i) (at (difference G net h log d) i)
  first_is =
      wire_ind G laws net valid same (λ i. at X i ≡ G.add (at Y i) (at D i))
      (λ i l.
      let a = run.first_input G laws net valid same h log sane d ok i l in
      let b = run.second_input G laws net valid same h log sane d ok i l in
      let c : at D i ≡ between G (given_at log i) = flow_input net valid G rules ins (length_each (inputs net) _) i l ∙ at_each (inputs net) _ i l in
      let e = input_sum (at d.inputs i) i (code_at G laws d.inputs ok.inputs_codes i) (given_at log i) (sane.given i l) in
      cc)
      (λ k f g l e _ _ p q.
      let a = run.first_gate G laws net valid same h log sane d ok k l (adds f g) e in
      let b = run.second_gate G laws net valid same h log sane d ok k l (adds f g) e in
      let c = gate k l (adds f g) e in
      let m = alg.medial G laws (at Y f) (at D f) (at Y g) (at D g) (y f) (difference_code f) (y g) (difference_code g) in
      cc)
      (λ k f v l e _ cv p.
      let a = run.first_gate G laws net valid same h log sane d ok k l (shifts f v) e in
      let b = run.second_gate G laws net valid same h log sane d ok k l (shifts f v) e in
      let c = gate k l (shifts f v) e in
      let m = alg.slide G laws (at Y f) (at D f) v (y f) (difference_code f) cv in
      cc)
      (λ k f v l e _ hom p.
      let a = run.first_gate G laws net valid same h log sane d ok k l (maps f v) e in
      let b = run.second_gate G laws net valid same h log sane d ok k l (maps f v) e in
      let c = gate k l (maps f v) e in
      let m = laws.image_add (row net v) (at Y f) (at D f) hom (y f) (difference_code f) in
      cc)
      (λ k f t l e _ _ p.
      let a = run.first_gate G laws net valid same h log sane d ok k l (looks f t) e in
      let b = run.second_gate G laws net valid same h log sane d ok k l (looks f t) e in
      let c = gate k l (looks f t) e in
      let z = G.add (at X f) (at (masks G net d) f) in
      let m = look_sum (ltb (ordinal net k) log.shared) (entry net t (at X f)) (entry net t (at Y f)) (error G net h log d (ordinal net k) z)
      (entry_code G laws net valid same t (at X f)) (entry_code G laws net valid same t (at Y f)) (run.error_code G laws net valid same h log sane d ok (ordinal net k) z) in
      cc)
    where
      ins : List ℕ
      ins = each (inputs net) (λ i. between G (given_at log i))

      rules : Rules
      rules = differing G net h log d

      D : List ℕ
      D = difference G net h log d

      y : (i : ℕ) → Code G (at Y i)
      y = run.second_code G laws net valid same h log sane d ok

      gate : (k : ℕ) → k < length net.gates → (g : Gate) → gate_at net k ≡ g → at D (inputs net + k) ≡ step G net rules (ordinal net k) D g
      gate = flow_gate net valid G rules ins (length_each (inputs net) _)

  pub difference_is : (i : ℕ) → i < wires net → at (difference G net h log d) i ≡ sub G (at X i) (at Y i)
  difference_is i l =
      let D = at (difference G net h log d) i in
      let cy = run.second_code G laws net valid same h log sane d ok i in
      sym (ap (λ x. sub G x (at Y i)) (first_is i l ∙ laws.comm (at Y i) D cy (difference_code i)) ∙ alg.unmask G laws D (at Y i) (difference_code i) cy)
