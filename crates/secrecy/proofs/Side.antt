-- One step of a busy place, in both histories.
use Rattle.std.proofs.Common.{◌≡◌, ℕ, zero, suc, ◌<◌, true, false, ltb, List, [], ◌∷◌, sym, refl, ap, ◌∙◌, subst, inl, inr}
use lib.Dec.{eqb-suc-zero}
use Rattle.std.proofs.lemmas.Bool.{lt-ltb}
use Rattle.groups.specs.Group.{Group, Laws, Codes}
use Rattle.model.specs.Net.{Net, Valid}
use Rattle.model.specs.Deal.{Deal, Lawful, part}
use Rattle.model.proofs.Masks.{part_codes}
use Rattle.model.specs.Host.{gathering, Call, stock, enter, takes, walk, hear, opens, close, drops, Control, Place, Reply, blank, or, failing, is, mine_at, absent, turn, says, lent, buffer_after, accept}
use Rattle.secrecy.specs.Evaluation.{Log, shift, Sane}
use Rattle.secrecy.specs.Script.{Step, dealt, rejected, enters, common, first_call, second_call, refusal, note, ends, log_from, Every, Other, Private, Agreed}
use Rattle.secrecy.proofs.Shift as sh
use Rattle.secrecy.proofs.Control.{Kept, Ext, ext_refl}
use Rattle.secrecy.proofs.Keep.{entering, taking, walks, hears, closing, busy_refuses, step_kept, final}
use Rattle.secrecy.proofs.Held.{Held}
use Rattle.secrecy.proofs.Busy.{mk, acts, idles, busy, Next, Went, act_refused, act_accepted, can_read, went_enters, went_takes, went_walk, went_hear, went_opens, closed}

pub same_verdict : (G : Group) (net : Net) → G.size ≡ net.size → (h : ℕ) (c : Control) (w a b : ℕ) → Private G (enters w a b) → refusal net h c (enter w a) ≡ refusal net h c (enter w b)
unfolding refusal
same_verdict G net same h c w a b (inl e) = ap (λ x. refusal net h c (enter w x)) e
same_verdict G net same h c w a b (inr p) =
    let e : ltb a net.size ≡ ltb b net.size = lt-ltb a net.size (rw (← same) p.0) ∙ sym (lt-ltb b net.size (rw (← same) p.1)) in
    ap (λ t. failing (or 12 (is gathering c.phase) ∷ or 13 (mine_at net h w) ∷ or 14 (absent c w) ∷ or 16 t ∷ [])) e

module _ (G : Group) (net : Net) (h : ℕ) (c : Control) (log : Log) (st : Step) (sts : List Step) where
  pub log_refused : (n : ℕ) → refusal net h c (first_call [] st) ≡ suc n → log_from G net h c log (st ∷ sts) ≡ log_from G net h c log sts
  unfolding log_from
  log_refused n e = rw (e, eqb-suc-zero n) refl

  pub log_on : refusal net h c (first_call [] st) ≡ 0 → ends st ≡ false
      → log_from G net h c log (st ∷ sts) ≡ log_from G net h (turn net c (first_call [] st)) (note G net c log st) sts
  unfolding log_from
  log_on e f = rw (e, f) refl

  pub log_over : refusal net h c (first_call [] st) ≡ 0 → ends st ≡ true → log_from G net h c log (st ∷ sts) ≡ log
  unfolding log_from
  log_over e f = rw (e, f) refl

module _ (G : Group) (laws : Laws G) (net : Net) (valid : Valid net) (same : G.size ≡ net.size) (h : ℕ) (own : h < net.parties)
    (c : Control) (log : Log) (kept : Kept G net h c log) (d : Deal) (ok : Lawful G net d) (ws : List ℕ) (st : Step) (sts : List Step)
    (private : Private G st) (privates : Every (Private G) sts) where
  abbrev F : Log
  F = log_from G net h c log (st ∷ sts)

  sane : Sane G net h F
  unfolding Every
  sane = (final G laws net same h (st ∷ sts) c log kept (private, privates)).1

  module _ (A : Type 0) (agreed : A → Agreed G net h F d) (held : Held G net h F d c ws) where
    abbrev P : Place
    P = mk c (part net h d) ws

    abbrev Q : Place
    Q = mk c (part net h (shift G net h (log_from G net h c log (st ∷ sts)) d)) ws

    p_reads : Codes G (part net h d)
    p_reads = part_codes G net h own d ok

    q_reads : Codes G (part net h (shift G net h F d))
    q_reads = part_codes G net h own (shift G net h F d) (sh.lawful G laws net valid same h F sane d ok own)

    -- both refused
    refusing : (p q : Call) (n : ℕ) → lent p ≡ lent q → refusal net h c p ≡ suc n → refusal net h c q ≡ suc n → refusal net h c (first_call [] st) ≡ suc n
        → Next A G net h sts (acts G net h P p) (acts G net h Q q)
    refusing p q n len u v r =
        let e : F ≡ log_from G net h c log sts = log_refused G net h c log st sts n r in
        let a = act_refused G net h P p n u in
        let b = act_refused G net h Q q n v in
        record {
          answer = ap (λ (x : Reply). x.answer) a ∙ sym (ap (λ (x : Reply). x.answer) b);
          buffer = λ _. ap (λ (x : Reply). x.buffer) a ∙ len ∙ sym (ap (λ (x : Reply). x.buffer) b);
          places = busy
              (record {
                control = c;
                wires = ws;
                deal = d;
                log = log;
                lawful = ok;
                kept = kept;
                agreed = λ z. subst (λ (x : Log). Agreed G net h x d) e (agreed z);
                held = subst (λ (x : Log). Held G net h x d c ws) e held;
                first = ap (λ (x : Reply). x.place) a;
                second = ap (λ (x : Reply). x.place) b ∙ ap (λ (x : Log). mk c (part net h (shift G net h x d)) ws) e;
              });
        }

    -- both accepted, and the evaluation goes on
    going : (p q : Call) → refusal net h c p ≡ 0 → refusal net h c q ≡ 0 → (v : refusal net h c (first_call [] st) ≡ 0) → ends st ≡ false
        → (Ext (note G net c log st) F → Went A G net h F d (turn net c (first_call [] st)) (accept G net h P p) (accept G net h Q q))
        → Next A G net h sts (acts G net h P p) (acts G net h Q q)
    going p q u v r on went =
        let e : F ≡ log_from G net h (turn net c (first_call [] st)) (note G net c log st) sts = log_on G net h c log st sts r on in
        let k = step_kept G laws net same h c log kept st private r on in
        let x : Ext (note G net c log st) F
        = subst (λ (y : Log). Ext (note G net c log st) y) (sym e) (final G laws net same h sts (turn net c (first_call [] st)) (note G net c log st) k.0 privates).0 in
        let w = went x in
        let a = act_accepted G net h P p u (can_read G laws net valid same h own c (part net h d) ws p_reads held.codes p) ∙ w.first in
        let b = act_accepted G net h Q q v (can_read G laws net valid same h own c (part net h (shift G net h F d)) ws q_reads held.codes q) ∙ w.second in
        record {
          answer = ap (λ (y : Reply). y.answer) a ∙ sym (ap (λ (y : Reply). y.answer) b);
          buffer = λ z. ap (λ (y : Reply). y.buffer) a ∙ w.same_buffer z ∙ sym (ap (λ (y : Reply). y.buffer) b);
          places = busy
              (record {
                control = turn net c (first_call [] st);
                wires = w.wires;
                deal = d;
                log = note G net c log st;
                lawful = ok;
                kept = k.0;
                agreed = λ z. subst (λ (y : Log). Agreed G net h y d) e (agreed z);
                held = subst (λ (y : Log). Held G net h y d (turn net c (first_call [] st)) w.wires) e w.held;
                first = ap (λ (y : Reply). y.place) a;
                second = ap (λ (y : Reply). y.place) b ∙ ap (λ (y : Log). mk (turn net c (first_call [] st)) (part net h (shift G net h y d)) w.wires) e;
              });
        }

    -- both accepted, and the evaluation is over
    ending : (p q : Call) → refusal net h c p ≡ 0 → refusal net h c q ≡ 0 → turn net c p ≡ blank net → turn net c q ≡ blank net
        → says G net h P p ≡ says G net h Q q → (A → buffer_after G net h P p ≡ buffer_after G net h Q q) → Next A G net h sts (acts G net h P p) (acts G net h Q q)
    ending p q u v x y answer buffer =
        let a = act_accepted G net h P p u (can_read G laws net valid same h own c (part net h d) ws p_reads held.codes p) in
        let b = act_accepted G net h Q q v (can_read G laws net valid same h own c (part net h (shift G net h F d)) ws q_reads held.codes q) in
        record {
          answer = ap (λ (y : Reply). y.answer) a ∙ answer ∙ sym (ap (λ (y : Reply). y.answer) b);
          buffer = λ z. ap (λ (y : Reply). y.buffer) a ∙ buffer z ∙ sym (ap (λ (y : Reply). y.buffer) b);
          places = idles (ap (λ (y : Reply). y.place.control.phase) a ∙ ap (λ (y : Control). y.phase) x)
              (ap (λ (y : Reply). y.place.control) b ∙ y ∙ sym x ∙ sym (ap (λ (y : Reply). y.place.control) a));
        }

module _ (G : Group) (laws : Laws G) (net : Net) (valid : Valid net) (same : G.size ≡ net.size) (h : ℕ) (own : h < net.parties)
    (c : Control) (log : Log) (kept : Kept G net h c log) (d : Deal) (ok : Lawful G net d) (ws : List ℕ) (sts : List Step)
    (privates : Every (Private G) sts) (A : Type 0) where
  pub busy_step : (st : Step) → Private G st → (bytes bytes' : List ℕ)
      → (A → Agreed G net h (log_from G net h c log (st ∷ sts)) d) → Held G net h (log_from G net h c log (st ∷ sts)) d c ws
      → Next A G net h sts (acts G net h (mk c (part net h d) ws) (first_call bytes st))
      (acts G net h (mk c (part net h (shift G net h (log_from G net h c log (st ∷ sts)) d)) ws) (second_call bytes' st))
  busy_step dealt pr x y ag he =
      refusing G laws net valid same h own c log kept d ok ws dealt sts pr privates A ag he (stock x) (stock y) 11 refl
      (busy_refuses G net same h c c.phase refl kept.stage x) (busy_refuses G net same h c c.phase refl kept.stage y) (busy_refuses G net same h c c.phase refl kept.stage [])
  busy_step (rejected a b) pr x y ag he =
      refusing G laws net valid same h own c log kept d ok ws (rejected a b) sts pr privates A ag he (stock a) (stock b) 11 refl
      (busy_refuses G net same h c c.phase refl kept.stage a) (busy_refuses G net same h c c.phase refl kept.stage b) (busy_refuses G net same h c c.phase refl kept.stage a)
  busy_step (enters w a b) pr x y ag he = go (refusal net h c (enter w a)) refl
    where
      go : (v : ℕ) → refusal net h c (enter w a) ≡ v
          → Next A G net h sts (acts G net h (mk c (part net h d) ws) (enter w a))
          (acts G net h (mk c (part net h (shift G net h (log_from G net h c log (enters w a b ∷ sts)) d)) ws) (enter w b))
      go zero e =
          going G laws net valid same h own c log kept d ok ws (enters w a b) sts pr privates A ag he (enter w a) (enter w b) e (sym (same_verdict G net same h c w a b pr) ∙ e) e refl
          (λ ext. went_enters G laws net valid same h own _ (sane G laws net valid same h own c log kept d ok ws (enters w a b) sts pr privates) d ok c log kept ws he A ag w a b (entering G net same h c w a e) ext)
      go (suc n) e =
          refusing G laws net valid same h own c log kept d ok ws (enters w a b) sts pr privates A ag he (enter w a) (enter w b) n refl e (sym (same_verdict G net same h c w a b pr) ∙ e) e
  busy_step (common p) pr x y ag he = go (refusal net h c p) refl
    where
      on : (p : Call) → Other p → refusal net h c p ≡ 0 → (A → Agreed G net h (log_from G net h c log (common p ∷ sts)) d) → Held G net h (log_from G net h c log (common p ∷ sts)) d c ws
          → Next A G net h sts (acts G net h (mk c (part net h d) ws) p)
          (acts G net h (mk c (part net h (shift G net h (log_from G net h c log (common p ∷ sts)) d)) ws) p)
      on (stock b) o e ag he = absurd o
      on (enter w v) o e ag he = absurd o
      on (takes w m) o e ag he =
          going G laws net valid same h own c log kept d ok ws (common (takes w m)) sts tt privates A ag he (takes w m) (takes w m) e e e refl
          (λ ext. went_takes G laws net valid same h own _ (sane G laws net valid same h own c log kept d ok ws (common (takes w m)) sts tt privates) d ok c log kept ws he A ag w m (taking G net same h c w m e) ext)
      on (walk b) o e ag he =
          going G laws net valid same h own c log kept d ok ws (common (walk b)) sts tt privates A ag he (walk b) (walk b) e e e refl
          (λ ext. went_walk G laws net valid same h own _ (sane G laws net valid same h own c log kept d ok ws (common (walk b)) sts tt privates) d ok c log kept ws he A ag b (walks G net same h c b e) ext)
      on (hear cs) o e ag he =
          going G laws net valid same h own c log kept d ok ws (common (hear cs)) sts tt privates A ag he (hear cs) (hear cs) e e e refl
          (λ ext. went_hear G laws net valid same h own _ (sane G laws net valid same h own c log kept d ok ws (common (hear cs)) sts tt privates) d ok c log kept ws he A ag cs (hears G net same h c cs e).0 ext)
      on (opens buf) o e ag he =
          going G laws net valid same h own c log kept d ok ws (common (opens buf)) sts tt privates A ag he (opens buf) (opens buf) e e e refl
          (λ ext. went_opens G laws net valid same h own _ (sane G laws net valid same h own c log kept d ok ws (common (opens buf)) sts tt privates) d ok c log kept ws he A ag buf ext)
      on (close cs buf) o e ag he =
          let s = sane G laws net valid same h own c log kept d ok ws (common (close cs buf)) sts tt privates in
          let x : Ext log (log_from G net h c log (common (close cs buf) ∷ sts)) = subst (λ (y : Log). Ext log y) (sym (log_over G net h c log (common (close cs buf)) sts e refl)) (ext_refl log) in
          let ph = closing G net same h c cs buf e in
          ending G laws net valid same h own c log kept d ok ws (common (close cs buf)) sts tt privates A ag he (close cs buf) (close cs buf) e e refl refl refl
          (λ z. closed G laws net valid same h own _ s d ok c log kept ws he A ag z cs buf ph x)
      on drops o e ag he =
          ending G laws net valid same h own c log kept d ok ws (common drops) sts tt privates A ag he drops drops e e refl refl refl (λ _. refl)

      go : (v : ℕ) → refusal net h c p ≡ v
          → Next A G net h sts (acts G net h (mk c (part net h d) ws) p)
          (acts G net h (mk c (part net h (shift G net h (log_from G net h c log (common p ∷ sts)) d)) ws) p)
      go zero e = on p pr e ag he
      go (suc n) e = refusing G laws net valid same h own c log kept d ok ws (common p) sts pr privates A ag he p p n refl e e e
