-- Accepted steps keep control and log together, and the final log extends every log on the way.
use Rattle.std.proofs.Common.{◌≡◌, ℕ, ◌+◌, ◌-◌, ◌<◌, ◌≤◌, Bool, true, false, cond, not, eqb, ltb, ◌⊎◌, List, [], ◌∷◌, ◌++◌, length, get_or, set, sym, refl, ap, ◌∙◌, subst, inl, inr, arith}
use Rattle.std.proofs.lemmas.List.{get_or-set_same, get_or-set_other, length-set, length_push, get_or_push, get_or_append_left, length-replicate, get_or-replicate}
use Rattle.std.proofs.lemmas.Bool.{cases_eq, cases_lt, and_parts, ltb-true, eqb-true, not-true}
use Rattle.groups.proofs.Totals.{sums}
use Rattle.groups.specs.Group.{Group, Laws, Codes}
use Rattle.groups.specs.Total.{total}
use Rattle.model.specs.Words.{at}
use Rattle.model.specs.Net.{looks, Net, inputs, ordinal}
use Rattle.model.specs.Host.{Phase, empty, gathering, walking, waiting, ended, opened, stock, enter, takes, walk, hear, opens, close, drops, Control, stocked, lacking, is, mine_at, theirs_at, absent, steps, Stop, the_end, a_look, on_the_way, stop_at, filling, walk_to, turn}
use Rattle.groups.specs.Tested.{are_codes}
use Rattle.secrecy.specs.Evaluation.{Given, missing, entered, taken, Log, given_at, Fair, Sane}
use Rattle.secrecy.specs.Script.{Step, dealt, rejected, enters, common, first_call, refusal, giving, note, ends, log_from, fresh, Every, Private}
use Rattle.secrecy.proofs.Algebra.{Code}
use Rattle.secrecy.proofs.Control.{passed, phase_is, codes_true, lacking_none, steps_le, steps_plain, ordinal_more, ordinal_walk, at_end_lem, at_look_lem, is_given, Stage, pending, Kept, Ext, ext_refl, ext_trans}

pub record Entering (G : Group) (net : Net) (h : ℕ) (c : Control) (w v : ℕ) : Type 0 where
  pub phase : c.phase ≡ gathering
  pub wire : w < inputs net
  pub owner : at net.owners w ≡ h
  pub absent : get_or c.given w false ≡ false
  pub code : Code G v

pub record Taking (G : Group) (net : Net) (c : Control) (w v : ℕ) : Type 0 where
  pub phase : c.phase ≡ gathering
  pub wire : w < inputs net
  pub absent : get_or c.given w false ≡ false
  pub code : Code G v

module _ (G : Group) (net : Net) (same : G.size ≡ net.size) (h : ℕ) (c : Control) where
  pub entering : (w v : ℕ) → refusal net h c (enter w v) ≡ 0 → Entering G net h c w v
  unfolding refusal
  entering w v e =
      let a = passed 11 (is gathering c.phase) _ e in
      let b = passed 12 (mine_at net h w) _ a.1 in
      let d = passed 13 (absent c w) _ b.1 in
      let f = passed 15 (ltb v net.size) _ d.1 in
      let m = and_parts (ltb w (inputs net)) (eqb (at net.owners w) h) b.0 in
      record {
        phase = phase_is gathering c.phase a.0;
        wire = ltb-true w (inputs net) m.0;
        owner = eqb-true (at net.owners w) h m.1;
        absent = not-true (get_or c.given w false) d.0;
        code = rw same (ltb-true v net.size f.0);
      }

  pub taking : (w v : ℕ) → refusal net h c (takes w v) ≡ 0 → Taking G net c w v
  unfolding refusal
  taking w v e =
      let a = passed 11 (is gathering c.phase) _ e in
      let b = passed 12 (theirs_at net h w) _ a.1 in
      let d = passed 13 (absent c w) _ b.1 in
      let f = passed 15 (ltb v net.size) _ d.1 in
      let m = and_parts (ltb w (inputs net)) (not (eqb (at net.owners w) h)) b.0 in
      record {
        phase = phase_is gathering c.phase a.0;
        wire = ltb-true w (inputs net) m.0;
        absent = not-true (get_or c.given w false) d.0;
        code = rw same (ltb-true v net.size f.0);
      }

  pub walks : (b : ℕ) → refusal net h c (walk b) ≡ 0 → c.phase ≡ walking
  unfolding refusal
  walks b e = phase_is walking c.phase (passed 11 (is walking c.phase) _ e).0

  pub hears : (cs : List ℕ) → refusal net h c (hear cs) ≡ 0 → (c.phase ≡ waiting) × Codes G cs
  unfolding refusal
  hears cs e =
      let a = passed 11 (is waiting c.phase) _ e in
      let b = passed 14 (eqb (length cs) (net.parties - 1)) _ a.1 in
      let d = passed 15 (are_codes net.size cs) _ b.1 in
      (phase_is waiting c.phase a.0, codes_true G net same cs d.0)

  pub opening : (buf : List ℕ) → refusal net h c (opens buf) ≡ 0 → c.phase ≡ ended
  unfolding refusal
  opening buf e = phase_is ended c.phase (passed 11 (is ended c.phase) _ e).0

  pub closing : (cs buf : List ℕ) → refusal net h c (close cs buf) ≡ 0 → c.phase ≡ opened
  unfolding refusal
  closing cs buf e = phase_is opened c.phase (passed 11 (is opened c.phase) _ e).0

  pub busy_refuses : (p : Phase) → c.phase ≡ p → Stage net c.given c.gate p → (bytes : List ℕ) → refusal net h c (stock bytes) ≡ 12
  unfolding refusal
  busy_refuses empty e s bytes = absurd s
  busy_refuses gathering e s bytes = rw e refl
  busy_refuses walking e s bytes = rw e refl
  busy_refuses waiting e s bytes = rw e refl
  busy_refuses ended e s bytes = rw e refl
  busy_refuses opened e s bytes = rw e refl

-- ---- steps

module _ (G : Group) (laws : Laws G) (net : Net) (same : G.size ≡ net.size) (h : ℕ) where
  pub given_fresh : Kept G net h (stocked net) (fresh net)
  given_fresh =
      record {
        long = length-replicate (inputs net) false;
        log_long = length-replicate (inputs net) missing;
        same = λ i l. ap is_given (get_or-replicate (inputs net) i missing missing l) ∙ sym (get_or-replicate (inputs net) i false false l);
        sane = record {
          given = λ i l. subst (λ (g : Given). Fair G net h i g) (sym (get_or-replicate (inputs net) i missing missing l)) tt;
          heard = λ k l. absurd (omega arith);
        };
        stage = refl;
        heard = refl;
        shared = refl;
        count = refl;
        opened = λ e. let z : ◌≡◌ {A = ℕ} 0 1 = cc in absurd (omega arith);
      }

  module _ (c : Control) (log : Log) (k : Kept G net h c log) where
    module _ (w : ℕ) (g : Given) (given_is : is_given g ≡ true) (phase : c.phase ≡ gathering) (wire : w < inputs net) (fair : Fair G net h w g)
        (free : get_or c.given w false ≡ false) where
      at_w : given_at (giving log w g) w ≡ g
      at_w = get_or-set_same log.given w g missing (rw k.log_long wire)

      not_w : (i : ℕ) → (i ≡ w → ⊥) → given_at (giving log w g) i ≡ given_at log i
      not_w i n = get_or-set_other log.given w i g missing n

      same' : (i : ℕ) → i < inputs net → (i ≡ w) ⊎ (i ≡ w → ⊥) → is_given (given_at (giving log w g) i) ≡ get_or (set c.given w true) i false
      same' i l (inl e) =
          rw e (ap is_given at_w ∙ given_is ∙ sym (get_or-set_same c.given w true false (rw k.long wire)))
      same' i l (inr n) = ap is_given (not_w i n) ∙ k.same i l ∙ sym (get_or-set_other c.given w i true false n)

      fair' : (i : ℕ) → i < inputs net → (i ≡ w) ⊎ (i ≡ w → ⊥) → Fair G net h i (given_at (giving log w g) i)
      fair' i l (inl e) = rw e (subst (λ (x : Given). Fair G net h w x) (sym at_w) fair)
      fair' i l (inr n) = subst (λ (x : Given). Fair G net h i x) (sym (not_w i n)) (k.sane.given i l)

      gate_0 : c.gate ≡ 0
      gate_0 = subst (λ p. Stage net c.given c.gate p) phase k.stage

      shares_0 : c.shares ≡ ordinal net c.gate + 0
      shares_0 = k.count ∙ ap (λ p. ordinal net c.gate + pending p) phase

      stage' : (b : Bool) → eqb (lacking (set c.given w true)) 0 ≡ b → Stage net (set c.given w true) c.gate (cond b walking gathering)
      stage' true e =
          ((λ i l. lacking_none (set c.given w true) (eqb-true _ 0 e) i (rw (length-set c.given w true) (rw k.long l))), omega (arith, gate_0))
      stage' false e = gate_0

      count' : (b : Bool) → c.shares ≡ ordinal net c.gate + pending (cond b walking gathering)
      count' true = shares_0
      count' false = shares_0

      opened' : (b : Bool) → cond b walking gathering ≡ opened → log.opened ≡ true
      opened' true e = let z : ◌≡◌ {A = ℕ} 0 1 = cc in absurd (omega arith)
      opened' false e = let z : ◌≡◌ {A = ℕ} 0 1 = cc in absurd (omega arith)

      pub filled_kept : Kept G net h (filling c w) (giving log w g)
      filled_kept =
          record {
            long = length-set c.given w true ∙ k.long;
            log_long = length-set log.given w g ∙ k.log_long;
            same = λ i l. same' i l (cases_eq i w);
            sane = record { given = λ i l. fair' i l (cases_eq i w); heard = k.sane.heard };
            stage = stage' (eqb (lacking (set c.given w true)) 0) refl;
            heard = k.heard;
            shared = k.shared;
            count = count' (eqb (lacking (set c.given w true)) 0);
            opened = opened' (eqb (lacking (set c.given w true)) 0);
          }

      given_ext : (i : ℕ) → is_given (given_at log i) ≡ true → (i ≡ w) ⊎ (i ≡ w → ⊥) → given_at (giving log w g) i ≡ given_at log i
      given_ext i e (inl p) =
          let q : is_given (given_at log w) ≡ true = rw p at e in
          let f : is_given (given_at log w) ≡ false = k.same w wire ∙ free in
          let z : ◌≡◌ {A = ℕ} 0 1 = cc in absurd (omega arith)
      given_ext i e (inr n) = not_w i n

      pub filled_ext : Ext log (giving log w g)
      filled_ext =
          record {
            given = λ i e. given_ext i e (cases_eq i w);
            heard_length = omega arith;
            heard = λ l _. refl;
            shared = omega arith;
            opened = λ e. e;
          }

    module _ (b : ℕ) (phase : c.phase ≡ walking) where
      abbrev g' : ℕ
      g' = c.gate + steps net c.gate b

      at_walking : Stage net c.given c.gate walking
      at_walking = subst (λ p. Stage net c.given c.gate p) phase k.stage

      pub to_gate : g' ≤ length net.gates
      to_gate = steps_le net c.gate b at_walking.1

      pub same_ordinal : ordinal net g' ≡ ordinal net c.gate
      same_ordinal = ordinal_walk net c.gate (steps net c.gate b) to_gate (λ j l. steps_plain net c.gate b j l)

      shares_walk : c.shares ≡ ordinal net g'
      shares_walk =
          let z : c.shares ≡ ordinal net c.gate + 0 = k.count ∙ ap (λ p. ordinal net c.gate + pending p) phase in
          omega (arith, same_ordinal)

      abbrev walked : Stop → Log
      walked s = record { given = log.given; heard = log.heard; shared = (walk_to c g' s).shares; opened = log.opened }

      walk_to_lem : (s : Stop) → stop_at net g' ≡ s → Kept G net h (walk_to c g' s) (walked s)
      walk_to_lem the_end e =
          record {
            long = k.long;
            log_long = k.log_long;
            same = k.same;
            sane = record { given = k.sane.given; heard = k.sane.heard };
            stage = (at_walking.0, omega (arith, to_gate, at_end_lem net g' e));
            heard = k.heard ∙ sym same_ordinal;
            shared = refl;
            count = omega (arith, shares_walk);
            opened = λ e. let z : ◌≡◌ {A = ℕ} 0 1 = cc in absurd (omega arith);
          }
      walk_to_lem (a_look f) e =
          let (l, (t, q)) = at_look_lem net g' f e in
          record {
            long = k.long;
            log_long = k.log_long;
            same = k.same;
            sane = record { given = k.sane.given; heard = k.sane.heard };
            stage = (at_walking.0, l, (f, t, q));
            heard = k.heard ∙ sym same_ordinal;
            shared = refl;
            count = omega (arith, shares_walk);
            opened = λ e. let z : ◌≡◌ {A = ℕ} 0 1 = cc in absurd (omega arith);
          }
      walk_to_lem on_the_way e =
          record {
            long = k.long;
            log_long = k.log_long;
            same = k.same;
            sane = record { given = k.sane.given; heard = k.sane.heard };
            stage = (at_walking.0, to_gate);
            heard = k.heard ∙ sym same_ordinal;
            shared = refl;
            count = omega (arith, shares_walk);
            opened = λ e. let z : ◌≡◌ {A = ℕ} 0 1 = cc in absurd (omega arith);
          }

      more_shares : (s : Stop) → log.shared ≤ (walk_to c g' s).shares
      more_shares the_end = omega (arith, k.shared)
      more_shares (a_look f) = omega (arith, k.shared)
      more_shares on_the_way = omega (arith, k.shared)

      pub walk_kept : Kept G net h (turn net c (walk b)) (note G net c log (common (walk b)))
      walk_kept = walk_to_lem (stop_at net g') refl

      pub walk_ext : Ext log (note G net c log (common (walk b)))
      walk_ext =
          record { given = λ i _. refl; heard_length = omega arith; heard = λ l _. refl; shared = more_shares (stop_at net g'); opened = λ e. e }

    module _ (cs : List ℕ) (phase : c.phase ≡ waiting) (codes : Codes G cs) where
      at_waiting : Stage net c.given c.gate waiting
      at_waiting = subst (λ p. Stage net c.given c.gate p) phase k.stage

      one_more : ordinal net (c.gate + 1) ≡ ordinal net c.gate + 1
      one_more = let (f, t, q) = at_waiting.2 in ordinal_more net c.gate at_waiting.1 (looks f t) q

      heard_codes : (l : ℕ) → l < length (log.heard ++ total G cs ∷ []) → (l < length log.heard) ⊎ (length log.heard ≤ l) → Code G (at (log.heard ++ total G cs ∷ []) l)
      heard_codes l m (inl s) = rw (get_or_append_left log.heard (total G cs ∷ []) 0 l s) (k.sane.heard l s)
      heard_codes l m (inr s) =
          let e : length log.heard ≡ l = omega (arith, length_push log.heard (total G cs)) in
          rw (get_or_push log.heard (total G cs) 0 l e) ((sums laws).total_code cs codes)

      pub hear_kept : Kept G net h (turn net c (hear cs)) (note G net c log (common (hear cs)))
      hear_kept =
          record {
            long = k.long;
            log_long = k.log_long;
            same = k.same;
            sane = record { given = k.sane.given; heard = λ l m. heard_codes l m (cases_lt l (length log.heard)) };
            stage = (at_waiting.0, omega (arith, at_waiting.1));
            heard = length_push log.heard (total G cs) ∙ omega (arith, k.heard, one_more);
            shared = k.shared;
            count =
                let z : c.shares ≡ ordinal net c.gate + 1 = k.count ∙ ap (λ p. ordinal net c.gate + pending p) phase in
                omega (arith, one_more);
            opened = λ e. let z : ◌≡◌ {A = ℕ} 0 1 = cc in absurd (omega arith);
          }

      pub hear_ext : Ext log (note G net c log (common (hear cs)))
      hear_ext =
          record {
            given = λ i _. refl;
            heard_length = omega (arith, length_push log.heard (total G cs));
            heard = λ l s. get_or_append_left log.heard (total G cs ∷ []) 0 l s;
            shared = omega arith;
            opened = λ e. e;
          }

    module _ (buf : List ℕ) (phase : c.phase ≡ ended) where
      at_ended : Stage net c.given c.gate ended
      at_ended = subst (λ p. Stage net c.given c.gate p) phase k.stage

      pub open_kept : Kept G net h (turn net c (opens buf)) (note G net c log (common (opens buf)))
      open_kept =
          record {
            long = k.long;
            log_long = k.log_long;
            same = k.same;
            sane = record { given = k.sane.given; heard = k.sane.heard };
            stage = at_ended;
            heard = k.heard;
            shared = k.shared;
            count = k.count ∙ ap (λ p. ordinal net c.gate + pending p) phase;
            opened = λ _. refl;
          }

      pub open_ext : Ext log (note G net c log (common (opens buf)))
      open_ext = record { given = λ i _. refl; heard_length = omega arith; heard = λ l _. refl; shared = omega arith; opened = λ _. refl }

    -- any accepted step that does not end the evaluation
    pub both_codes : (w a b : ℕ) → Private G (enters w a b) → Code G a → Code G b
    both_codes w a b (inl e) ca = rw (← e) ca
    both_codes w a b (inr p) ca = p.1

    pub step_kept : (st : Step) → Private G st → refusal net h c (first_call [] st) ≡ 0 → ends st ≡ false
        → Kept G net h (turn net c (first_call [] st)) (note G net c log st) × Ext log (note G net c log st)
    step_kept dealt p v e = let z = busy_refuses G net same h c c.phase refl k.stage [] in absurd (omega arith)
    step_kept (rejected a b) p v e = let z = busy_refuses G net same h c c.phase refl k.stage a in absurd (omega arith)
    step_kept (enters w a b) p v e =
        let f = entering G net same h c w a v in
        let q : Fair G net h w (entered a b) = (f.owner, f.code, both_codes w a b p f.code) in
        (filled_kept w (entered a b) refl f.phase f.wire q f.absent, filled_ext w (entered a b) refl f.phase f.wire q f.absent)
    step_kept (common (stock b)) p v e = absurd p
    step_kept (common (enter w x)) p v e = absurd p
    step_kept (common (takes w m)) p v e =
        let f = taking G net same h c w m v in
        (filled_kept w (taken m) refl f.phase f.wire f.code f.absent, filled_ext w (taken m) refl f.phase f.wire f.code f.absent)
    step_kept (common (walk b)) p v e = (walk_kept b (walks G net same h c b v), walk_ext b (walks G net same h c b v))
    step_kept (common (hear cs)) p v e = let f = hears G net same h c cs v in (hear_kept cs f.0 f.1, hear_ext cs f.0 f.1)
    step_kept (common (opens buf)) p v e = (open_kept buf (opening G net same h c buf v), open_ext buf (opening G net same h c buf v))
    step_kept (common (close cs buf)) p v e = let z : ◌≡◌ {A = ℕ} 0 1 = cc in absurd (omega arith)
    step_kept (common drops) p v e = let z : ◌≡◌ {A = ℕ} 0 1 = cc in absurd (omega arith)

  -- the log at the end of a evaluation
  pub final : (sts : List Step) (c : Control) (log : Log) → Kept G net h c log → Every (Private G) sts
      → Ext log (log_from G net h c log sts) × Sane G net h (log_from G net h c log sts)
  unfolding log_from Every
  final [] c log k p = (ext_refl log, k.sane)
  final (st ∷ sts) c log k p =
      go (eqb (refusal net h c (first_call [] st)) 0) (ends st) refl refl (λ c' log' k'. final sts c' log' k' p.1)
    where
      go : (a e : Bool) → eqb (refusal net h c (first_call [] st)) 0 ≡ a → ends st ≡ e
          → ((c' : Control) (log' : Log) → Kept G net h c' log' → Ext log' (log_from G net h c' log' sts) × Sane G net h (log_from G net h c' log' sts))
          → Ext log (cond a (cond e log (log_from G net h (turn net c (first_call [] st)) (note G net c log st) sts)) (log_from G net h c log sts))
          × Sane G net h (cond a (cond e log (log_from G net h (turn net c (first_call [] st)) (note G net c log st) sts)) (log_from G net h c log sts))
      go true true q r rec = (ext_refl log, k.sane)
      go true false q r rec =
          let s = step_kept c log k st p.0 (eqb-true (refusal net h c (first_call [] st)) 0 q) r in
          let f = rec (turn net c (first_call [] st)) (note G net c log st) s.0 in
          (ext_trans log (note G net c log st) _ s.1 f.0, f.1)
      go false e q r rec = rec c log k
