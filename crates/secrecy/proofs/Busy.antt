-- Two places side by side through one step.
use Rattle.std.proofs.Common.{◌≡◌, ℕ, suc, ◌+◌, ◌*◌, ◌<◌, ◌≤◌, Bool, true, false, cond, eqb, ◌⊎◌, List, [], ◌∷◌, ◌++◌, length, get_or, set, sym, refl, ap, ◌∙◌, subst, inl, inr, arith}
use lib.Dec.{eqb-suc-zero}
use Rattle.std.proofs.lemmas.List.{get_or-set_same, get_or-set_other, length-set, get_or_push, length_push, ext_get_or}
use Rattle.std.proofs.lemmas.Bool.{cases_eq, lt-ltb}
use Rattle.groups.specs.Kept.{codes_set, codes_append}
use Rattle.groups.specs.Group.{Group, Laws, Codes, sub}
use Rattle.groups.specs.Total.{total}
use Rattle.model.specs.Words.{at, each}
use Rattle.model.specs.Net.{Gate, looks, Net, Valid, inputs, gate_at, first_of, ordinal}
use Rattle.model.specs.Deal.{Deal, Lawful, masks, cells, block, part}
use Rattle.model.proofs.Listed.{at_each, length_each}
use Rattle.model.proofs.Masks.{part_mask, part_own}
use Rattle.model.specs.Host.{empty, walking, waiting, opened, Call, stock, enter, takes, walk, hear, opens, close, drops, Control, Place, Answer, number, share, Reply, Test, or, failing, ask, fits, asks, readable, steps, Stop, the_end, a_look, on_the_way, stop_at, operand_of, pass, share_at, cell_at, entered_at, heard_at, shares_of, filling, walk_to, turn, walk_answer, says, buffer_after, verdict, accept, refuse, act}
use Rattle.groups.specs.Tested.{are_codes}
use Rattle.secrecy.specs.Evaluation.{missing, entered, taken, Log, given_at, first, second, shift, Sane}
use Rattle.secrecy.specs.Script.{Step, common, refusal, giving, note, log_from, Agreed}
use Rattle.secrecy.proofs.Algebra as alg
use Rattle.secrecy.proofs.Algebra.{Code}
use Rattle.secrecy.proofs.Runs as run
use Rattle.secrecy.proofs.Shift as sh
use Rattle.secrecy.proofs.Back as bk
use Rattle.secrecy.proofs.Cells as cl
use Rattle.secrecy.proofs.Control.{codes_are, steps_le, steps_plain, at_look_lem, is_given, Stage, pending, Kept, Ext, failing_front, failing_last, asks_more}
use Rattle.secrecy.proofs.Keep.{Entering, Taking, same_ordinal}
use Rattle.secrecy.proofs.Held.{masked, Held, Fit, held_fit, fit_held, masked_is_code, fit_more, pass_fit}

abbrev pub mk : Control → List ℕ → List ℕ → Place
mk c bytes ws = record { control = c; part = bytes; wires = ws }

abbrev pub gives : Answer → Place → List ℕ → Reply
gives a P b = record { answer = a; place = P; buffer = b }

-- two places in the middle of one evaluation; A is what has to hold for the outputs to be the same
pub record Busy (A : Type 0) (G : Group) (net : Net) (h : ℕ) (sts : List Step) (P Q : Place) : Type 0 where
  pub control : Control
  pub wires : List ℕ
  pub deal : Deal
  pub log : Log
  pub lawful : Lawful G net deal
  pub kept : Kept G net h control log
  pub agreed : A → Agreed G net h (log_from G net h control log sts) deal
  pub held : Held G net h (log_from G net h control log sts) deal control wires
  pub first : P ≡ record { control = control; part = part net h deal; wires = wires }
  pub second : Q ≡ record { control = control; part = part net h (shift G net h (log_from G net h control log sts) deal); wires = wires }

-- two places of the two histories, with the steps that are left for them
pub data Rel (A : Type 0) (G : Group) (net : Net) (h : ℕ) (sts : List Step) (P Q : Place) : Type 0 where
  idles : P.control.phase ≡ empty → Q.control ≡ P.control → Rel A G net h sts P Q
  busy : Busy A G net h sts P Q → Rel A G net h sts P Q

pub record Next (A : Type 0) (G : Group) (net : Net) (h : ℕ) (sts : List Step) (R S : Reply) : Type 0 where
  pub answer : R.answer ≡ S.answer
  pub buffer : A → R.buffer ≡ S.buffer
  pub places : Rel A G net h sts R.place S.place

-- what an accepted step that does not end the evaluation comes to
pub record Went (A : Type 0) (G : Group) (net : Net) (h : ℕ) (F : Log) (d : Deal) (c : Control) (R S : Reply) : Type 0 where
  pub answer : Answer
  pub wires : List ℕ
  pub buffer : List ℕ
  pub buffer' : List ℕ
  pub same_buffer : A → buffer ≡ buffer'
  pub first : R ≡ gives answer (mk c (part net h d) wires) buffer
  pub second : S ≡ gives answer (mk c (part net h (shift G net h F d)) wires) buffer'
  pub held : Held G net h F d c wires

each_same : (n : ℕ) (f g : ℕ → ℕ) → ((k : ℕ) → k < n → f k ≡ g k) → each n f ≡ each n g
each_same n f g e =
    ext_get_or 0 (each n f) (each n g) (length_each n f ∙ sym (length_each n g))
    (λ k l. let s : k < n = rw (length_each n f) at l in at_each n f k s ∙ e k s ∙ sym (at_each n g k s))

-- a call of one place, shut
unfoldable pub acts : Group → Net → ℕ → Place → Call → Reply
acts G net h P call = act G net h P call

pub acts_is : (G : Group) (net : Net) (h : ℕ) (P : Place) (call : Call) → acts G net h P call ≡ act G net h P call
unfolding acts
acts_is G net h P call = refl

abbrev front : Net → ℕ → Control → Call → List Test
front net h c call = or 12 (fits (ask call) c.phase) ∷ asks net h c call []

whole : (net : Net) (h : ℕ) (P : Place) (call : Call) (r : Bool) → readable net (P.part ++ P.wires) (ask call) ≡ r
    → verdict net h P call ≡ failing (front net h P.control call ++ or 17 r ∷ [])
whole net h P call r e =
    ap (λ b. failing (or 12 (fits (ask call) P.control.phase) ∷ asks net h P.control call (or 17 b ∷ []))) e
    ∙ ap (λ ts. failing (or 12 (fits (ask call) P.control.phase) ∷ ts)) (asks_more net h P.control call (or 17 r ∷ []))

-- a refusal that does not lie in the bytes is the place's, and where the bytes are codes there is no other
pub verdict_refused : (net : Net) (h : ℕ) (P : Place) (call : Call) (n : ℕ) → refusal net h P.control call ≡ suc n → verdict net h P call ≡ suc n
unfolding refusal
verdict_refused net h P call n e =
    whole net h P call (readable net (P.part ++ P.wires) (ask call)) refl
    ∙ failing_front (front net h P.control call) (or 17 (readable net (P.part ++ P.wires) (ask call)) ∷ []) n e

pub verdict_read : (net : Net) (h : ℕ) (P : Place) (call : Call) → readable net (P.part ++ P.wires) (ask call) ≡ true → verdict net h P call ≡ refusal net h P.control call
unfolding refusal
verdict_read net h P call r = whole net h P call true r ∙ failing_last (front net h P.control call) 17

pub act_refused : (G : Group) (net : Net) (h : ℕ) (P : Place) (call : Call) (n : ℕ) → refusal net h P.control call ≡ suc n → acts G net h P call ≡ refuse P call (suc n)
unfolding acts
act_refused G net h P call n e =
    ap (λ v. cond (eqb v 0) (accept G net h P call) (refuse P call v)) (verdict_refused net h P call n e)
    ∙ ap (λ b. cond b (accept G net h P call) (refuse P call (suc n))) (eqb-suc-zero n)

pub act_accepted : (G : Group) (net : Net) (h : ℕ) (P : Place) (call : Call) → refusal net h P.control call ≡ 0 → readable net (P.part ++ P.wires) (ask call) ≡ true → acts G net h P call ≡ accept G net h P call
unfolding acts
act_accepted G net h P call e r = ap (λ v. cond (eqb v 0) (accept G net h P call) (refuse P call v)) (verdict_read net h P call r ∙ e)

module _ (G : Group) (laws : Laws G) (net : Net) (valid : Valid net) (same : G.size ≡ net.size) (h : ℕ) (own : h < net.parties) where
  -- a place with codes can be read
  module _ (c : Control) (bytes ws : List ℕ) (cb : Codes G bytes) (cw : Codes G ws) where
    all_codes : are_codes net.size (bytes ++ ws) ≡ true
    all_codes = codes_are G net same (bytes ++ ws) (codes_append G bytes ws cb cw)

    pub can_read : (call : Call) → readable net (bytes ++ ws) (ask call) ≡ true
    can_read (stock part) = refl
    can_read (enter w v) = all_codes
    can_read (takes w m) = all_codes
    can_read (walk b) = all_codes
    can_read (hear cs) = all_codes
    can_read (opens buf) = all_codes
    can_read (close cs buf) = all_codes
    can_read drops = refl

  -- an accepted step, F the evaluation's final log
  module _ (F : Log) (sane : Sane G net h F) (d : Deal) (ok : Lawful G net d) (c : Control) (log : Log) (kept : Kept G net h c log) (ws : List ℕ)
      (held : Held G net h F d c ws) (A : Type 0) (agreed : A → Agreed G net h F d) where
    abbrev d' : Deal
    d' = shift G net h F d

    abbrev P : Place
    P = mk c (part net h d) ws

    abbrev Q : Place
    Q = mk c (part net h (shift G net h F d)) ws

    ok' : Lawful G net d'
    ok' = sh.lawful G laws net valid same h F sane d ok own

    own_p : (k : ℕ) → share_at net h (part net h d) k ≡ at (block d.shares h) k
    own_p k = part_own G net h own d ok k

    own_q : (k : ℕ) → share_at net h (part net h (shift G net h F d)) k ≡ at (block d'.shares h) k
    own_q k = part_own G net h own d' ok' k

    -- an own value
    module _ (w a b : ℕ) (wire : w < inputs net) (owner : at net.owners w ≡ h) (given : given_at F w ≡ entered a b) where
      first_value_lem : entered_at G net h P w a ≡ masked G net h F d w
      first_value_lem =
          let p = part_mask G net h own d ok w wire owner in
          let m = run.mask_input G laws net valid same h F sane d ok w wire in
          let x : at (first G net h F d) w ≡ a = run.first_input G laws net valid same h F sane d ok w wire ∙ rw given refl in
          cc

      second_value_lem : entered_at G net h Q w b ≡ masked G net h F d w
      second_value_lem =
          let p = part_mask G net h own d' ok' w wire owner in
          let m = run.mask_input G laws net valid same h F sane d' ok' w wire in
          let y : at (second G net h F d) w ≡ b = run.second_input G laws net valid same h F sane d ok w wire ∙ rw given refl in
          let s = bk.same_masked G laws net valid same h own F sane d ok w (omega arith) in
          cc

    -- a value taken
    taken_value : (w m : ℕ) → w < inputs net → given_at F w ≡ taken m → Code G m → m ≡ masked G net h F d w
    taken_value w m wire given code =
        let q = run.mask_input G laws net valid same h F sane d ok w wire in
        let x : at (first G net h F d) w ≡ sub G m (at d.inputs w) = run.first_input G laws net valid same h F sane d ok w wire ∙ rw given refl in
        let r = alg.remask G laws m (at (masks G net d) w) code (run.mask_code G laws net valid same h F sane d ok w) in
        cc

    held_input : (w v : ℕ) → w < inputs net → v ≡ masked G net h F d w → c.gate ≡ 0 → Held G net h F d (filling c w) (set ws w v)
    held_input w v wire e gate =
        record {
          long = length-set ws w v ∙ held.long;
          codes = codes_set G ws w v held.codes (rw e (masked_is_code G laws net valid same h F sane d ok w));
          ins = λ i l t. go i l t (cases_eq i w);
          gates = λ k l. absurd (omega arith);
        }
      where
        go : (i : ℕ) → i < inputs net → get_or (set c.given w true) i false ≡ true → (i ≡ w) ⊎ (i ≡ w → ⊥) → at (set ws w v) i ≡ masked G net h F d i
        go i l t (inl q) = rw q (get_or-set_same ws w v 0 (rw held.long (omega arith)) ∙ e)
        go i l t (inr n) =
            get_or-set_other ws w i v 0 n ∙ held.ins i l (sym (get_or-set_other c.given w i true false n) ∙ t)

    -- the own cell of a look that is shared
    module _ (g f t : ℕ) (here : g < length net.gates) (look : gate_at net g ≡ looks f t) (vs : List ℕ) (reads : at vs f ≡ masked G net h F d f)
        (shared : ordinal net g < F.shared) where
      below_g : f < inputs net + g
      below_g = subst (λ (x : Gate). first_of x < inputs net + g) look (valid.wired g here).0

      abbrev cell_index : ℕ
      cell_index = ordinal net g * net.size + masked G net h F d f

      p_cell : cell_at net h (part net h d) g (at vs f) ≡ at (block d.shares h) cell_index
      p_cell = ap (λ x. share_at net h (part net h d) (ordinal net g * net.size + x)) reads ∙ own_p cell_index

      q_cell : cell_at net h (part net h (shift G net h F d)) g (at vs f) ≡ at (block d.shares h) cell_index
      q_cell =
          ap (λ x. share_at net h (part net h d') (ordinal net g * net.size + x)) reads ∙ own_q cell_index
          ∙ cl.same_cell G laws net valid same h own F sane d ok g f t here look below_g shared

    -- the own shares of the outputs
    output_p_q : A → F.opened ≡ true → (k : ℕ) → k < length net.outputs → share_at net h (part net h d) (cells net + k) ≡ share_at net h (part net h (shift G net h F d)) (cells net + k)
    output_p_q a e k l =
        own_p (cells net + k) ∙ sym (cl.same_output G laws net valid same h own F sane d ok k l (agreed a e k l)) ∙ sym (own_q (cells net + k))

    pub went_enters : (w a b : ℕ) → Entering G net h c w a → Ext (giving log w (entered a b)) F
        → Went A G net h F d (turn net c (enter w a)) (accept G net h P (enter w a)) (accept G net h Q (enter w b))
    went_enters w a b f ext =
        let at_w : given_at (giving log w (entered a b)) w ≡ entered a b = get_or-set_same log.given w (entered a b) missing (rw kept.log_long f.wire) in
        let given : given_at F w ≡ entered a b = ext.given w (ap is_given at_w) ∙ at_w in
        let v : entered_at G net h P w a ≡ masked G net h F d w = first_value_lem w a b f.wire f.owner given in
        let u : entered_at G net h Q w b ≡ masked G net h F d w = second_value_lem w a b f.wire f.owner given in
        let gate : c.gate ≡ 0 = subst (λ p. Stage net c.given c.gate p) f.phase kept.stage in
        record {
          answer = number (entered_at G net h P w a);
          wires = set ws w (entered_at G net h P w a);
          buffer = [];
          buffer' = [];
          same_buffer = λ _. refl;
          first = refl;
          second = ap (λ x. gives (number x) (mk (filling c w) (part net h d') (set ws w x)) []) (u ∙ sym v);
          held = held_input w (entered_at G net h P w a) f.wire v gate;
        }

    pub went_takes : (w m : ℕ) → Taking G net c w m → Ext (giving log w (taken m)) F
        → Went A G net h F d (turn net c (takes w m)) (accept G net h P (takes w m)) (accept G net h Q (takes w m))
    went_takes w m f ext =
        let at_w : given_at (giving log w (taken m)) w ≡ taken m = get_or-set_same log.given w (taken m) missing (rw kept.log_long f.wire) in
        let given : given_at F w ≡ taken m = ext.given w (ap is_given at_w) ∙ at_w in
        let gate : c.gate ≡ 0 = subst (λ p. Stage net c.given c.gate p) f.phase kept.stage in
        record {
          answer = says G net h P (takes w m);
          wires = set ws w m;
          buffer = [];
          buffer' = [];
          same_buffer = λ _. refl;
          first = refl;
          second = refl;
          held = held_input w m f.wire (taken_value w m f.wire given f.code) gate;
        }

    module _ (b : ℕ) (phase : c.phase ≡ walking) where
      abbrev n : ℕ
      n = steps net c.gate b

      abbrev g' : ℕ
      g' = c.gate + n

      abbrev vs : List ℕ
      vs = pass G net n c.gate ws

      walking_stage : Stage net c.given c.gate walking
      walking_stage = subst (λ p. Stage net c.given c.gate p) phase kept.stage

      walked_fit : Fit G net h F d g' vs
      walked_fit =
          pass_fit G laws net valid same h F sane d ok n c.gate ws (steps_le net c.gate b walking_stage.1) (λ k l. steps_plain net c.gate b k l)
          (held_fit G net h F d c ws walking_stage.0 held)

      walked_held : (s : Stop) → Held G net h F d (walk_to c g' s) vs
      walked_held the_end = fit_held G net h F d (walk_to c g' the_end) vs walked_fit
      walked_held (a_look f) = fit_held G net h F d (walk_to c g' (a_look f)) vs walked_fit
      walked_held on_the_way = fit_held G net h F d (walk_to c g' on_the_way) vs walked_fit

      ordinal_here : ordinal net g' ≡ c.shares
      ordinal_here =
          let z : c.shares ≡ ordinal net c.gate + 0 = kept.count ∙ ap (λ p. ordinal net c.gate + pending p) phase in
          omega (arith, same_ordinal G laws net same h c log kept b phase)

      same_walk : (s : Stop) → stop_at net g' ≡ s → (walk_to c g' s).shares ≤ F.shared → walk_answer net h P n vs s ≡ walk_answer net h Q n vs s
      same_walk the_end e l = refl
      same_walk (a_look f) e l =
          let (here, (t, look)) = at_look_lem net g' f e in
          let reads : at vs f ≡ masked G net h F d f = walked_fit.below f (subst (λ (x : Gate). first_of x < inputs net + g') look (valid.wired g' here).0) in
          let sh' : ordinal net g' < F.shared = omega (arith, ordinal_here) in
          ap (λ x. share x n (c.shares + 1)) (p_cell g' f t here look vs reads sh' ∙ sym (q_cell g' f t here look vs reads sh'))
      same_walk on_the_way e l = refl

      pub went_walk : Ext (note G net c log (common (walk b))) F
          → Went A G net h F d (turn net c (walk b)) (accept G net h P (walk b)) (accept G net h Q (walk b))
      went_walk ext =
          record {
            answer = walk_answer net h P n vs (stop_at net g');
            wires = vs;
            buffer = [];
            buffer' = [];
            same_buffer = λ _. refl;
            first = refl;
            second = ap (λ x. gives x (mk (walk_to c g' (stop_at net g')) (part net h d') vs) []) (sym (same_walk (stop_at net g') refl ext.shared));
            held = walked_held (stop_at net g');
          }

    pub went_hear : (cs : List ℕ) → c.phase ≡ waiting → Ext (note G net c log (common (hear cs))) F
        → Went A G net h F d (turn net c (hear cs)) (accept G net h P (hear cs)) (accept G net h Q (hear cs))
    went_hear cs phase ext =
        let stage : Stage net c.given c.gate waiting = subst (λ p. Stage net c.given c.gate p) phase kept.stage in
        let g = c.gate in
        let (f, t, look) = stage.2 in
        let fit = held_fit G net h F d c ws stage.0 held in
        let below = subst (λ (x : Gate). first_of x < inputs net + g) look (valid.wired g stage.1).0 in
        let reads : at ws f ≡ masked G net h F d f = fit.below f below in
        let z : c.shares ≡ ordinal net g + 1 = kept.count ∙ ap (λ p. ordinal net g + pending p) phase in
        let shared : ordinal net g < F.shared = omega (arith, ext.shared, kept.shared) in
        let stop : operand_of (stop_at net g) ≡ f = rw (lt-ltb g (length net.gates) stage.1, look) refl in
        let len : length log.heard ≡ ordinal net g = kept.heard in
        let more = length_push log.heard (total G cs) in
        let heard : at F.heard (ordinal net g) ≡ total G cs
        = ext.heard (ordinal net g) (omega arith) ∙ get_or_push log.heard (total G cs) 0 (ordinal net g) len in
        let hl : ordinal net g < length F.heard = omega (arith, ext.heard_length) in
        let p : heard_at G net h P cs ≡ G.add (at (block d.shares h) (ordinal net g * net.size + masked G net h F d f)) (total G cs)
        = ap (λ x. G.add (cell_at net h (part net h d) g (at ws x)) (total G cs)) stop ∙ ap (λ x. G.add x (total G cs)) (p_cell g f t stage.1 look ws reads shared) in
        let q : heard_at G net h Q cs ≡ G.add (at (block d.shares h) (ordinal net g * net.size + masked G net h F d f)) (total G cs)
        = ap (λ x. G.add (cell_at net h (part net h d') g (at ws x)) (total G cs)) stop ∙ ap (λ x. G.add x (total G cs)) (q_cell g f t stage.1 look ws reads shared) in
        let v : heard_at G net h P cs ≡ masked G net h F d (inputs net + g)
        = p ∙ ap (λ x. G.add (at (block d.shares h) (ordinal net g * net.size + masked G net h F d f)) x) (sym heard)
        ∙ cl.heard_value G laws net valid same h own F sane d ok g f t stage.1 look below shared hl in
        let s : suc g ≡ g + 1 = omega arith in
        record {
          answer = number (heard_at G net h P cs);
          wires = set ws (inputs net + g) (heard_at G net h P cs);
          buffer = [];
          buffer' = [];
          same_buffer = λ _. refl;
          first = refl;
          second = ap (λ x. gives (number x) (mk (turn net c (hear cs)) (part net h d') (set ws (inputs net + g) x)) []) (q ∙ sym p);
          held = fit_held G net h F d _ _
              (subst (λ (x : ℕ). Fit G net h F d x (set ws (inputs net + g) (heard_at G net h P cs))) s
              (fit_more G laws net valid same h F sane d ok g (heard_at G net h P cs) ws stage.1 v fit));
        }

    pub went_opens : (buf : List ℕ) → Ext (note G net c log (common (opens buf))) F
        → Went A G net h F d (turn net c (opens buf)) (accept G net h P (opens buf)) (accept G net h Q (opens buf))
    went_opens buf ext =
        record {
          answer = number (length net.outputs);
          wires = ws;
          buffer = buffer_after G net h P (opens buf);
          buffer' = buffer_after G net h Q (opens buf);
          same_buffer = λ a. each_same (length net.outputs) _ _ (output_p_q a (ext.opened refl));
          first = refl;
          second = refl;
          held = record { long = held.long; codes = held.codes; ins = held.ins; gates = held.gates };
        }

    pub closed : A → (cs buf : List ℕ) → c.phase ≡ opened → Ext log F → buffer_after G net h P (close cs buf) ≡ buffer_after G net h Q (close cs buf)
    closed a cs buf phase ext =
        each_same (length net.outputs) _ _
        (λ k l. ap (λ x. sub G (sub G (at ws (at net.outputs k)) x) (total G (shares_of net cs k))) (output_p_q a (ext.opened (kept.opened phase)) k l))
