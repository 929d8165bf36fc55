-- The wires of a busy place hold the masked values of the first history.
use Rattle.std.proofs.Common.{◌≡◌, ℕ, zero, suc, ◌+◌, ◌-◌, ◌<◌, ◌≤◌, true, false, ◌⊎◌, List, length, get_or, set, refl, ◌∙◌, subst, inl, inr, arith}
use Rattle.std.proofs.lemmas.List.{get_or-set_same, get_or-set_other, length-set}
use Rattle.std.proofs.lemmas.Bool.{cases_eq, cases_lt}
use Rattle.groups.specs.Kept.{codes_set}
use Rattle.groups.specs.Group.{Group, Laws, Codes}
use Rattle.model.specs.Words.{at}
use Rattle.model.specs.Net.{Gate, adds, shifts, maps, looks, Net, Valid, inputs, gate_at, wires, row, first_of, second_of, limit, row_count, table_count, step}
use Rattle.model.specs.Deal.{Deal, Lawful, masks}
use Rattle.model.proofs.Wires.{row_codes}
use Rattle.model.specs.Host.{Control, on_the_way, stop_of, passing, pass}
use Rattle.secrecy.specs.Evaluation.{Log, first, Sane}
use Rattle.secrecy.proofs.Algebra as alg
use Rattle.secrecy.proofs.Algebra.{Code}
use Rattle.secrecy.proofs.Runs as run
use Rattle.secrecy.proofs.Control.{Full}

abbrev pub masked : Group → Net → ℕ → Log → Deal → ℕ → ℕ
masked G net h F d w = G.add (at (first G net h F d) w) (at (masks G net d) w)

pub record Held (G : Group) (net : Net) (h : ℕ) (F : Log) (d : Deal) (c : Control) (ws : List ℕ) : Type 0 where
  pub long : length ws ≡ wires net
  pub codes : Codes G ws
  pub ins : (i : ℕ) → i < inputs net → get_or c.given i false ≡ true → at ws i ≡ masked G net h F d i
  pub gates : (k : ℕ) → k < c.gate → at ws (inputs net + k) ≡ masked G net h F d (inputs net + k)

-- all wires below gate g
pub record Fit (G : Group) (net : Net) (h : ℕ) (F : Log) (d : Deal) (g : ℕ) (ws : List ℕ) : Type 0 where
  pub long : length ws ≡ wires net
  pub codes : Codes G ws
  pub below : (w : ℕ) → w < inputs net + g → at ws w ≡ masked G net h F d w

pub held_fit : (G : Group) (net : Net) (h : ℕ) (F : Log) (d : Deal) (c : Control) (ws : List ℕ) → Full net c.given → Held G net h F d c ws → Fit G net h F d c.gate ws
held_fit G net h F d c ws full held = record { long = held.long; codes = held.codes; below = λ w l. go w l (cases_lt w (inputs net)) }
  where
    go : (w : ℕ) → w < inputs net + c.gate → (w < inputs net) ⊎ (inputs net ≤ w) → at ws w ≡ masked G net h F d w
    go w l (inl s) = held.ins w s (full w s)
    go w l (inr s) =
        let e : inputs net + (w - inputs net) ≡ w = omega arith in
        subst (λ (x : ℕ). at ws x ≡ masked G net h F d x) e (held.gates (w - inputs net) (omega arith))

pub fit_held : (G : Group) (net : Net) (h : ℕ) (F : Log) (d : Deal) (c : Control) (ws : List ℕ) → Fit G net h F d c.gate ws → Held G net h F d c ws
fit_held G net h F d c ws fit =
    record { long = fit.long; codes = fit.codes; ins = λ i l _. fit.below i (omega arith); gates = λ k l. fit.below (inputs net + k) (omega arith) }

module _ (G : Group) (laws : Laws G) (net : Net) (valid : Valid net) (same : G.size ≡ net.size) (h : ℕ) (F : Log) (sane : Sane G net h F) (d : Deal) (ok : Lawful G net d) where
  abbrev X : List ℕ
  X = first G net h F d

  abbrev M : List ℕ
  M = masks G net d

  x_code : (i : ℕ) → Code G (at X i)
  x_code = run.first_code G laws net valid same h F sane d ok

  m_code : (i : ℕ) → Code G (at M i)
  m_code = run.mask_code G laws net valid same h F sane d ok

  pub masked_is_code : (i : ℕ) → Code G (masked G net h F d i)
  masked_is_code i = laws.add_code _ _ (x_code i) (m_code i)

  -- a gate passed on masked values
  gate_value : (k : ℕ) → k < length net.gates → (g : Gate) → gate_at net k ≡ g → (first_of g < inputs net + k) × (second_of g < limit net.size (row_count net) (table_count net) (inputs net + k) g) → stop_of g ≡ on_the_way
      → (ws : List ℕ) → ((w : ℕ) → w < inputs net + k → at ws w ≡ masked G net h F d w)
      → step G net (passing G) 0 ws g ≡ masked G net h F d (inputs net + k)
  gate_value k l (adds f s) e v p ws below =
      let a = run.first_gate G laws net valid same h F sane d ok k l (adds f s) e in
      let b = run.mask_gate G laws net valid same h F sane d ok k l (adds f s) e in
      let m = alg.medial G laws (at X f) (at M f) (at X s) (at M s) (x_code f) (m_code f) (x_code s) (m_code s) in
      let x = below f v.0 in
      let y = below s v.1 in
      cc
  gate_value k l (shifts f c) e v p ws below =
      let a = run.first_gate G laws net valid same h F sane d ok k l (shifts f c) e in
      let b = run.mask_gate G laws net valid same h F sane d ok k l (shifts f c) e in
      let m = alg.slide G laws (at X f) (at M f) c (x_code f) (m_code f) (rw same v.1) in
      let x = below f v.0 in
      cc
  gate_value k l (maps f r) e v p ws below =
      let a = run.first_gate G laws net valid same h F sane d ok k l (maps f r) e in
      let b = run.mask_gate G laws net valid same h F sane d ok k l (maps f r) e in
      let m = laws.image_add (row net r) (at X f) (at M f) (row_codes G laws net valid same r) (x_code f) (m_code f) in
      let x = below f v.0 in
      cc
  gate_value k l (looks f t) e v p ws below = let z : ◌≡◌ {A = ℕ} 0 1 = cc in absurd (omega arith)

  -- one more wire
  pub fit_more : (g v : ℕ) (ws : List ℕ) → g < length net.gates → v ≡ masked G net h F d (inputs net + g) → Fit G net h F d g ws → Fit G net h F d (suc g) (set ws (inputs net + g) v)
  fit_more g v ws l e fit =
      record {
        long = length-set ws (inputs net + g) v ∙ fit.long;
        codes = codes_set G ws (inputs net + g) v fit.codes (rw e (masked_is_code (inputs net + g)));
        below = λ w s. go w s (cases_eq w (inputs net + g));
      }
    where
      go : (w : ℕ) → w < inputs net + suc g → (w ≡ inputs net + g) ⊎ (w ≡ inputs net + g → ⊥) → at (set ws (inputs net + g) v) w ≡ masked G net h F d w
      go w s (inl q) = rw q (get_or-set_same ws (inputs net + g) v 0 (rw fit.long (omega arith)) ∙ e)
      go w s (inr n) = get_or-set_other ws (inputs net + g) w v 0 n ∙ fit.below w (omega arith)

  pub pass_fit : (n g : ℕ) (ws : List ℕ) → g + n ≤ length net.gates → ((k : ℕ) → k < n → stop_of (gate_at net (g + k)) ≡ on_the_way)
      → Fit G net h F d g ws → Fit G net h F d (g + n) (pass G net n g ws)
  unfolding pass
  pass_fit zero g ws l p fit = let e : g ≡ g + 0 = omega arith in subst (λ (x : ℕ). Fit G net h F d x ws) e fit
  pass_fit (suc n) g ws l p fit =
      let e : suc g + n ≡ g + suc n = omega arith in
      let here : stop_of (gate_at net g) ≡ on_the_way = subst (λ (x : ℕ). stop_of (gate_at net x) ≡ on_the_way) (omega arith) (p 0 (omega arith)) in
      let v = step G net (passing G) 0 ws (gate_at net g) in
      let q : v ≡ masked G net h F d (inputs net + g) = gate_value g (omega arith) (gate_at net g) refl (valid.wired g (omega arith)) here ws fit.below in
      subst (λ (x : ℕ). Fit G net h F d x (pass G net n (suc g) (set ws (inputs net + g) v))) e
      (pass_fit n (suc g) (set ws (inputs net + g) v) (omega arith)
      (λ k m. let s : g + suc k ≡ suc g + k = omega arith in subst (λ (x : ℕ). stop_of (gate_at net x) ≡ on_the_way) s (p (suc k) (omega arith)))
      (fit_more g v ws (omega arith) q fit))
