-- The shift by the exchanged histories takes a shifted deal back.
use Rattle.std.proofs.Common.{◌≡◌, ℕ, ◌+◌, ◌*◌, ◌<◌, cond, ltb, ◌⊎◌, List, [], length, sym, refl, ap, ◌∙◌, subst, inl, inr, arith}
use lib.ListN.{get_or-map}
use Rattle.std.proofs.lemmas.List.{ext_get_or}
use Rattle.std.proofs.lemmas.Bool.{cases_eq}
use Rattle.groups.specs.Group.{Group, Laws, sub}
use Rattle.groups.specs.Total.{total}
use Rattle.model.specs.Words.{at}
use Rattle.model.specs.Net.{Gate, adds, shifts, maps, looks, Net, Valid, inputs, gate_at, wires, ordinal, look_total, lookup_at, step}
use Rattle.model.specs.Deal.{Deal, Lawful, masks, owed, columns, column, block}
use Rattle.model.proofs.Listed.{code_at}
use Rattle.model.proofs.Lookups.{look_at, look_of}
use Rattle.model.proofs.Masks.{masks_by, owed_code}
use Rattle.secrecy.specs.Evaluation.{Given, missing, entered, taken, Log, given_at, first_value, second_value, error, first, second, shift, swapped, swap, Fair, Sane}
use Rattle.secrecy.proofs.Algebra as alg
use Rattle.secrecy.proofs.Algebra.{Code}
use Rattle.secrecy.proofs.Runs as run
use Rattle.secrecy.proofs.Runs.{wire_ind}
use Rattle.secrecy.proofs.Shift as sh

pub swap_given : (log : Log) (i : ℕ) → given_at (swap log) i ≡ swapped (given_at log i)
swap_given log i = get_or-map swapped log.given i missing

swap_fair : (G : Group) (net : Net) (h i : ℕ) (g : Given) → Fair G net h i g → Fair G net h i (swapped g)
swap_fair G net h i missing f = f
swap_fair G net h i (entered a b) f = (f.0, f.2, f.1)
swap_fair G net h i (taken c) f = f

pub swap_sane : (G : Group) (net : Net) (h : ℕ) (log : Log) → Sane G net h log → Sane G net h (swap log)
swap_sane G net h log s =
    record { given = λ i l. subst (λ (g : Given). Fair G net h i g) (sym (swap_given log i)) (swap_fair G net h i (given_at log i) (s.given i l)); heard = s.heard }

module _ (G : Group) (laws : Laws G) (net : Net) (valid : Valid net) (same : G.size ≡ net.size) (h : ℕ) (own : h < net.parties) (log : Log) (sane : Sane G net h log)
    (d : Deal) (ok : Lawful G net d) where
  abbrev d' : Deal
  d' = shift G net h log d

  abbrev d'' : Deal
  d'' = shift G net h (swap log) (shift G net h log d)

  sane' : Sane G net h (swap log)
  sane' = swap_sane G net h log sane

  ok' : Lawful G net d'
  ok' = sh.lawful G laws net valid same h log sane d ok own

  abbrev M : List ℕ
  M = masks G net d

  abbrev X : List ℕ
  X = first G net h log d

  abbrev Y : List ℕ
  Y = second G net h log d

  abbrev M' : List ℕ
  M' = masks G net (shift G net h log d)

  abbrev X' : List ℕ
  X' = first G net h (swap log) (shift G net h log d)

  abbrev Y' : List ℕ
  Y' = second G net h (swap log) (shift G net h log d)

  m_code : (i : ℕ) → Code G (at M i)
  m_code = run.mask_code G laws net valid same h log sane d ok

  x_code : (i : ℕ) → Code G (at X i)
  x_code = run.first_code G laws net valid same h log sane d ok

  y_code : (i : ℕ) → Code G (at Y i)
  y_code = run.second_code G laws net valid same h log sane d ok

  pub same_error : (l c : ℕ) → error G net h (swap log) d' l c ≡ error G net h log d l c
  unfolding error
  same_error l c =
      ap (λ bs. cond (ltb l (length log.heard)) (sub G (at log.heard l) (total G (column bs (l * net.size + c)))) 0)
      (sh.others_shares G laws net valid same h log sane d ok)

  -- the masked value of a wire is the same in both histories
  pub same_masked : (w : ℕ) → w < wires net → G.add (at Y w) (at M' w) ≡ G.add (at X w) (at M w)
  same_masked w l =
      ap (G.add (at Y w)) (sh.moved_mask G laws net valid same h log sane d ok w l)
      ∙ alg.same_masked G laws (at M w) (at X w) (at Y w) (m_code w) (x_code w) (y_code w)

  inputs_x : (i : ℕ) → i < inputs net → (g : Given) → given_at log i ≡ g → at X' i ≡ at Y i
  inputs_x i l g e = go g e
    where
      s : given_at (swap log) i ≡ swapped (given_at log i)
      s = swap_given log i

      a : at X' i ≡ first_value G (at d'.inputs i) (given_at (swap log) i)
      a = run.first_input G laws net valid same h (swap log) sane' d' ok' i l

      b : at Y i ≡ second_value G (at d.inputs i) (given_at log i)
      b = run.second_input G laws net valid same h log sane d ok i l

      c : at X i ≡ first_value G (at d.inputs i) (given_at log i)
      c = run.first_input G laws net valid same h log sane d ok i l

      go : (g : Given) → given_at log i ≡ g → at X' i ≡ at Y i
      go missing e = cc (s, a, b)
      go (entered u v) e = cc (s, a, b)
      go (taken u) e =
          let equal : at X i ≡ at Y i = cc (b, c) in
          let k = sh.kept_input G laws net valid same h log sane d ok i l equal in
          cc (s, a, b)

  inputs_y : (i : ℕ) → i < inputs net → (g : Given) → given_at log i ≡ g → at Y' i ≡ at X i
  inputs_y i l g e = go g e
    where
      s : given_at (swap log) i ≡ swapped (given_at log i)
      s = swap_given log i

      a : at Y' i ≡ second_value G (at d'.inputs i) (given_at (swap log) i)
      a = run.second_input G laws net valid same h (swap log) sane' d' ok' i l

      b : at Y i ≡ second_value G (at d.inputs i) (given_at log i)
      b = run.second_input G laws net valid same h log sane d ok i l

      c : at X i ≡ first_value G (at d.inputs i) (given_at log i)
      c = run.first_input G laws net valid same h log sane d ok i l

      go : (g : Given) → given_at log i ≡ g → at Y' i ≡ at X i
      go missing e = cc (s, a, c)
      go (entered u v) e = cc (s, a, c)
      go (taken u) e =
          let equal : at X i ≡ at Y i = cc (b, c) in
          let k = sh.kept_input G laws net valid same h log sane d ok i l equal in
          cc (s, a, c)

  below : (k f : ℕ) → k < length net.gates → f < inputs net + k → f < wires net
  below k f l b = omega arith

  pub first_back : (i : ℕ) → i < wires net → at X' i ≡ at Y i
  first_back =
      wire_ind G laws net valid same (λ i. at X' i ≡ at Y i) (λ i l. inputs_x i l (given_at log i) refl)
      (λ k f s l g _ _ p q. let a = gx k l (adds f s) g in let b = gy k l (adds f s) g in cc)
      (λ k f c l g _ _ p. let a = gx k l (shifts f c) g in let b = gy k l (shifts f c) g in cc)
      (λ k f m l g _ _ p. let a = gx k l (maps f m) g in let b = gy k l (maps f m) g in cc)
      (λ k f t l g u _ p.
      let a = gx k l (looks f t) g in
      let b = gy k l (looks f t) g in
      let v = same_masked f (below k f l u) in
      let e = same_error (ordinal net k) (G.add (at X f) (at M f)) in
      cc)
    where
      gx : (k : ℕ) → k < length net.gates → (g : Gate) → gate_at net k ≡ g → at X' (inputs net + k) ≡ step G net (run.x_rules G laws net valid same h (swap log) sane' d' ok') (ordinal net k) X' g
      gx = run.first_gate G laws net valid same h (swap log) sane' d' ok'

      gy : (k : ℕ) → k < length net.gates → (g : Gate) → gate_at net k ≡ g → at Y (inputs net + k) ≡ step G net (run.y_rules G laws net valid same h log sane d ok) (ordinal net k) Y g
      gy = run.second_gate G laws net valid same h log sane d ok

  pub second_back : (i : ℕ) → i < wires net → at Y' i ≡ at X i
  second_back =
      wire_ind G laws net valid same (λ i. at Y' i ≡ at X i) (λ i l. inputs_y i l (given_at log i) refl)
      (λ k f s l g _ _ p q. let a = gy k l (adds f s) g in let b = gx k l (adds f s) g in cc)
      (λ k f c l g _ _ p. let a = gy k l (shifts f c) g in let b = gx k l (shifts f c) g in cc)
      (λ k f m l g _ _ p. let a = gy k l (maps f m) g in let b = gx k l (maps f m) g in cc)
      (λ k f t l g u _ p.
      let a = gy k l (looks f t) g in
      let b = gx k l (looks f t) g in
      let v = same_masked f (below k f l u) in
      let x = first_back f (below k f l u) in
      let e = same_error (ordinal net k) (G.add (at X f) (at M f)) in
      cc)
    where
      gx : (k : ℕ) → k < length net.gates → (g : Gate) → gate_at net k ≡ g → at X (inputs net + k) ≡ step G net (run.x_rules G laws net valid same h log sane d ok) (ordinal net k) X g
      gx = run.first_gate G laws net valid same h log sane d ok

      gy : (k : ℕ) → k < length net.gates → (g : Gate) → gate_at net k ≡ g → at Y' (inputs net + k) ≡ step G net (run.y_rules G laws net valid same h (swap log) sane' d' ok') (ordinal net k) Y' g
      gy = run.second_gate G laws net valid same h (swap log) sane' d' ok'

  inputs_back : d''.inputs ≡ d.inputs
  inputs_back =
      ext_get_or 0 d''.inputs d.inputs (ok''.inputs_length ∙ sym ok.inputs_length)
      (λ i l.
      let s : i < inputs net = rw ok''.inputs_length at l in
      let a = sh.shift_input G laws net valid same h (swap log) sane' d' ok' i s in
      let b = sh.shift_input G laws net valid same h log sane d ok i s in
      let x = first_back i (omega arith) in
      let y = second_back i (omega arith) in
      let t = alg.there_and_back G laws (at d.inputs i) (at X i) (at Y i) (code_at G laws d.inputs ok.inputs_codes i) (x_code i) (y_code i) in
      cc)
    where
      ok'' : Lawful G net d''
      ok'' = sh.lawful G laws net valid same h (swap log) sane' d' ok' own

  looks_back : d''.looks ≡ d.looks
  looks_back =
      ext_get_or 0 d''.looks d.looks (ok''.looks_length ∙ sym ok.looks_length)
      (λ i l.
      let s : i < look_total net = rw ok''.looks_length at l in
      let (k, f, t, g, e, o) = look_of net i s in
      let w : (lookup_at net i).wire ≡ inputs net + k = rw o at (look_at net k f t g e).wire in
      let n : (lookup_at net i).wire < wires net = omega arith in
      let a = sh.shift_look G laws net valid same h (swap log) sane' d' ok' i s in
      let b = sh.shift_look G laws net valid same h log sane d ok i s in
      let x = first_back (lookup_at net i).wire n in
      let y = second_back (lookup_at net i).wire n in
      let r = alg.there_and_back G laws (at d.looks i) (at X (lookup_at net i).wire) (at Y (lookup_at net i).wire)
      (code_at G laws d.looks ok.looks_codes i) (x_code (lookup_at net i).wire) (y_code (lookup_at net i).wire) in
      cc)
    where
      ok'' : Lawful G net d''
      ok'' = sh.lawful G laws net valid same h (swap log) sane' d' ok' own

  masks_back : masks G net d'' ≡ M
  masks_back = masks_by G net d'' d inputs_back looks_back

  own_back : block d''.shares h ≡ block d.shares h
  own_back =
      ext_get_or 0 (block d''.shares h) (block d.shares h) (ok''.block_length h own ∙ sym (ok.block_length h own))
      (λ k l.
      let s : k < columns net = rw (ok''.block_length h own) at l in
      let a = sh.own_block G laws net valid same h (swap log) sane' d' ok' own k s in
      let b = sh.own_block G laws net valid same h log sane d ok own k s in
      let m = masks_back in
      let r = alg.there_and_back G laws (at (block d.shares h) k) (at (owed G net M') k) (at (owed G net M) k)
      (code_at G laws (block d.shares h) (ok.block_codes h own) k)
      (owed_code G laws net valid same M' (run.mask_code G laws net valid same h (swap log) sane' d' ok') k)
      (owed_code G laws net valid same M m_code k) in
      cc)
    where
      ok'' : Lawful G net d''
      ok'' = sh.lawful G laws net valid same h (swap log) sane' d' ok' own

  shares_back : d''.shares ≡ d.shares
  shares_back =
      ext_get_or [] d''.shares d.shares (ok''.shares_length ∙ sym ok.shares_length) (λ p l. go p (cases_eq p h))
    where
      ok'' : Lawful G net d''
      ok'' = sh.lawful G laws net valid same h (swap log) sane' d' ok' own

      go : (p : ℕ) → (p ≡ h) ⊎ (p ≡ h → ⊥) → block d''.shares p ≡ block d.shares p
      go p (inl e) = rw e own_back
      go p (inr n) = sh.others_blocks G laws net valid same h (swap log) sane' d' ok' p n ∙ sh.others_blocks G laws net valid same h log sane d ok p n

  pub back : shift G net h (swap log) (shift G net h log d) ≡ d
  back = λ i. record { inputs = inputs_back i; looks = looks_back i; shares = shares_back i }
