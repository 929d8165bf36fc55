-- The own cells that a host shows are the same before and after the shift.
use Rattle.std.proofs.Common.{◌≡◌, ℕ, ◌+◌, ◌-◌, ◌*◌, ◌<◌, List, length, sym, refl, ap, ◌∙◌, subst, arith}
use lib.Arith.{digits_lt, digits_div, digits_mod}
use Rattle.std.proofs.lemmas.Bool.{lt-ltb, le-ltb}
use Rattle.groups.specs.Group.{Group, Laws, sub}
use Rattle.groups.specs.Total.{total}
use Rattle.model.specs.Words.{at}
use Rattle.model.specs.Net.{looks, Net, Valid, inputs, gate_at, entry, ordinal, look_total, lookup_at}
use Rattle.model.specs.Deal.{Deal, Lawful, masks, owed, owed_at, cells, columns, column, block, others, cell}
use Rattle.model.proofs.Listed.{at_each, code_at}
use Rattle.model.proofs.Wires.{entry_code}
use Rattle.model.proofs.Lookups.{look_at}
use Rattle.model.proofs.Sums.{column_split}
use Rattle.model.proofs.Masks.{owed_code}
use Rattle.secrecy.specs.Evaluation.{Log, error, first, second, shift, Sane}
use Rattle.secrecy.proofs.Algebra as alg
use Rattle.secrecy.proofs.Algebra.{Code}
use Rattle.secrecy.proofs.Runs as run
use Rattle.secrecy.proofs.Shift as sh
use Rattle.secrecy.proofs.Back as bk

owed_cell : (G : Group) (net : Net) (m : List ℕ) (l c : ℕ) → l < look_total net → c < net.size
    → at (owed G net m) (l * net.size + c) ≡ cell G net m (lookup_at net l) c
unfolding owed
owed_cell G net m l c h s =
    let inside : l * net.size + c < cells net = digits_lt h s in
    at_each (columns net) (owed_at G net m) (l * net.size + c) (omega arith)
    ∙ rw (lt-ltb (l * net.size + c) (cells net) inside, digits_div l s, digits_mod l s) refl

pub owed_output : (G : Group) (net : Net) (m : List ℕ) (k : ℕ) → k < length net.outputs
    → at (owed G net m) (cells net + k) ≡ at m (at net.outputs k)
unfolding owed
owed_output G net m k h =
    let e : cells net + k - cells net ≡ k = omega arith in
    at_each (columns net) (owed_at G net m) (cells net + k) (omega arith) ∙ rw (le-ltb (cells net + k) (cells net) (omega arith), e) refl

module _ (G : Group) (laws : Laws G) (net : Net) (valid : Valid net) (same : G.size ≡ net.size) (h : ℕ) (own : h < net.parties) (log : Log) (sane : Sane G net h log)
    (d : Deal) (ok : Lawful G net d) where
  abbrev d' : Deal
  d' = shift G net h log d

  abbrev M : List ℕ
  M = masks G net d

  abbrev X : List ℕ
  X = first G net h log d

  abbrev Y : List ℕ
  Y = second G net h log d

  abbrev M' : List ℕ
  M' = masks G net (shift G net h log d)

  m_code : (i : ℕ) → Code G (at M i)
  m_code = run.mask_code G laws net valid same h log sane d ok

  x_code : (i : ℕ) → Code G (at X i)
  x_code = run.first_code G laws net valid same h log sane d ok

  y_code : (i : ℕ) → Code G (at Y i)
  y_code = run.second_code G laws net valid same h log sane d ok

  m_code' : (i : ℕ) → Code G (at M' i)
  m_code' = run.mask_code G laws net valid same h log sane d' (sh.lawful G laws net valid same h log sane d ok own)

  -- the masked value of a wire
  abbrev pub masked : ℕ → ℕ
  masked w = G.add (at X w) (at M w)

  pub masked_code : (w : ℕ) → Code G (masked w)
  masked_code w = laws.add_code _ _ (x_code w) (m_code w)

  masked_small : (w : ℕ) → masked w < net.size
  masked_small w = subst (λ (q : ℕ). masked w < q) same (masked_code w)

  -- a block's number where nothing more is owed
  unmoved : (k : ℕ) → k < columns net → at (owed G net M') k ≡ at (owed G net M) k → at (block d'.shares h) k ≡ at (block d.shares h) k
  unmoved k l e =
      sh.own_block G laws net valid same h log sane d ok own k l
      ∙ ap (λ v. G.add (at (block d.shares h) k) (sub G v (at (owed G net M) k))) e
      ∙ alg.still G laws _ _ (code_at G laws (block d.shares h) (ok.block_codes h own) k) (owed_code G laws net valid same M m_code k)

  module _ (k f t : ℕ) (here : k < length net.gates) (look : gate_at net k ≡ looks f t) (reads : f < inputs net + k) where
    abbrev l : ℕ
    l = ordinal net k

    abbrev w : ℕ
    w = inputs net + k

    small : l < look_total net
    small = (look_at net k f t here look).small

    pub in_columns : l * net.size + masked f < columns net
    in_columns =
        let i : l * net.size + masked f < cells net = digits_lt small (masked_small f) in
        omega arith

    -- what is owed at the masked value of the operand
    pub owed_here : at (owed G net M) (l * net.size + masked f) ≡ G.add (entry net t (at X f)) (at M w)
    owed_here =
        let e = owed_cell G net M l (masked f) small (masked_small f) in
        let o = (look_at net k f t here look).operand in
        let b = (look_at net k f t here look).table in
        let v = (look_at net k f t here look).wire in
        let u = alg.unmask G laws (at X f) (at M f) (x_code f) (m_code f) in
        cc

    owed_there : l < log.shared → at (owed G net M') (l * net.size + masked f) ≡ G.add (entry net t (at X f)) (at M w)
    owed_there shared =
        let e = owed_cell G net M' l (masked f) small (masked_small f) in
        let o = (look_at net k f t here look).operand in
        let b = (look_at net k f t here look).table in
        let v = (look_at net k f t here look).wire in
        let s = bk.same_masked G laws net valid same h own log sane d ok f (omega arith) in
        let u = alg.unmask G laws (at Y f) (at M' f) (y_code f) (m_code' f) in
        let err = error G net h log d l (masked f) in
        let err_code = run.error_code G laws net valid same h log sane d ok l (masked f) in
        let test = lt-ltb l log.shared shared in
        let x : at X w ≡ G.add (entry net t (at X f)) err
        = run.first_gate G laws net valid same h log sane d ok k here (looks f t) look ∙ rw test refl in
        let y : at Y w ≡ G.add (entry net t (at Y f)) err
        = run.second_gate G laws net valid same h log sane d ok k here (looks f t) look ∙ rw test refl in
        let m = sh.moved_mask G laws net valid same h log sane d ok w (omega arith) in
        let tx = entry_code G laws net valid same t (at X f) in
        let ty = entry_code G laws net valid same t (at Y f) in
        let p = alg.move_shift G laws (at M w) (entry net t (at X f)) (entry net t (at Y f)) err (m_code w) tx ty err_code in
        let q = alg.same_masked G laws (at M w) (entry net t (at X f)) (entry net t (at Y f)) (m_code w) tx ty in
        cc

    pub same_cell : l < log.shared → at (block d'.shares h) (l * net.size + masked f) ≡ at (block d.shares h) (l * net.size + masked f)
    same_cell shared = unmoved (l * net.size + masked f) in_columns (owed_there shared ∙ sym owed_here)

    -- the own share and what was heard: the masked value of the look's wire
    pub heard_value : l < log.shared → l < length log.heard
        → G.add (at (block d.shares h) (l * net.size + masked f)) (at log.heard l) ≡ masked w
    unfolding error
    heard_value shared heard =
        let j = l * net.size + masked f in
        let rest = total G (column (others h d.shares) j) in
        let x : at X w ≡ G.add (entry net t (at X f)) (sub G (at log.heard l) rest)
        = run.first_gate G laws net valid same h log sane d ok k here (looks f t) look
        ∙ rw (lt-ltb l log.shared shared, lt-ltb l (length log.heard) heard) refl in
        let s : G.add (at (block d.shares h) j) rest ≡ G.add (entry net t (at X f)) (at M w)
        = sym (column_split G laws h d.shares j (rw ok.shares_length own) (run.blocks G laws net valid same h log sane d ok)) ∙ ok.sums j in_columns ∙ owed_here in
        alg.answered G laws (at (block d.shares h) j) rest (entry net t (at X f)) (at M w) (at log.heard l)
        (code_at G laws (block d.shares h) (ok.block_codes h own) j) (run.rest_code G laws net valid same h log sane d ok j)
        (entry_code G laws net valid same t (at X f)) (m_code w) (code_at G laws log.heard sane.heard l) s
        ∙ ap (λ v. G.add v (at M w)) (sym x)

  pub same_output : (k : ℕ) → k < length net.outputs → at X (at net.outputs k) ≡ at Y (at net.outputs k)
      → at (block d'.shares h) (cells net + k) ≡ at (block d.shares h) (cells net + k)
  same_output k s e =
      let o = at net.outputs k in
      let m : at M' o ≡ at M o
      = sh.moved_mask G laws net valid same h log sane d ok o (valid.named.1 k s) ∙ ap (λ v. G.add (at M o) (sub G (at X o) v)) (sym e)
      ∙ alg.still G laws (at M o) (at X o) (m_code o) (x_code o) in
      unmoved (cells net + k) (omega arith) (owed_output G net M' k s ∙ m ∙ sym (owed_output G net M k s))
