-- A host of many places, in both histories.
use Rattle.std.proofs.Common.{◌≡◌, ℕ, zero, suc, ◌*◌, ◌<◌, ◌≤◌, Bool, true, false, cond, not, ◌&&◌, ◌||◌, eqb, ltb, leb, ◌⊎◌, List, [], ◌∷◌, ◌++◌, map, length, get_or, set, replicate, sym, refl, ap, ◌∙◌, subst, ap₂, inl, inr, arith, lit≤}
use lib.Dec.{eqb-suc-zero}
use Rattle.std.proofs.lemmas.List.{length-set, length-replicate, get_or-replicate}
use Rattle.std.proofs.lemmas.Bool.{cases_eq, cases_lt, lt-ltb, le-ltb, eq-eqb, ne_eqb, and_from, and_right}
use Rattle.groups.specs.Kept.{codes_zeros}
use Rattle.groups.specs.Group.{Group, Laws}
use Rattle.model.specs.Net.{Net, Valid, inputs, gate_at, wires, is_look}
use Rattle.model.specs.Deal.{Deal, Lawful, part, part_length}
use Rattle.model.proofs.Masks.{part_codes, part_length_lem}
use Rattle.model.proofs.Lift.{lift, same_verdict}
use Rattle.model.specs.Host.{Phase, empty, waiting, Call, stock, enter, takes, walk, hear, opens, close, drops, Control, Place, Answer, refused, Reply, stocked, Test, or, failing, Ask, STOCK, ENTER, TAKE, WALK, HEAR, OPEN, CLOSE, DROP, ask, is, fits, own, lent, act, readable, verdict}
use Rattle.groups.specs.Tested.{are_codes}
use Rattle.model.specs.Shelf.{Desk, nowhere, control_at, room_at, room_length, is_hear, same_counts, at_look, frame, shelf_verdict, Served, accepted, refusing, serve}
use Rattle.model.specs.Place.{place_of, Proper, Lifted}
use Rattle.secrecy.specs.Evaluation.{Log, shift}
use Rattle.secrecy.specs.Script.{Step, dealt, rejected, enters, common, Item, first_call, second_call, top_part, left, firsts, seconds, swap_step, swap_item, Seen, seen, runs, refusal, log_from, fresh, only, logs, shifted_by, shifted, Every, Other, Private, Goes, GoesAll, ReadAll, Agreed, AgreeBy, Agree}
use Rattle.secrecy.proofs.Shift as sh
use Rattle.secrecy.proofs.Control.{codes_are, refusal_below, phase_is, Stage}
use Rattle.secrecy.proofs.Keep.{given_fresh, final}
use Rattle.secrecy.proofs.Held.{Held}
use Rattle.secrecy.proofs.Busy.{acts, acts_is, Rel, idles, busy, Next, act_refused, act_accepted, can_read, verdict_refused, verdict_read}
use Rattle.secrecy.proofs.Side.{busy_step}

abbrev pub item : ℕ → Step → Item
item p st = record { place = p; step = st }

only_same : (p : ℕ) (st : Step) (s : List Item) → only p (item p st ∷ s) ≡ st ∷ only p s
unfolding only
only_same p st s = rw (eq-eqb p p refl) refl

only_other : (p q : ℕ) (st : Step) (s : List Item) → (p ≡ q → ⊥) → only q (item p st ∷ s) ≡ only q s
unfolding only
only_other p q st s n = rw (ne_eqb p q n) refl

every_cond : {X : Type 0} (P : X → Type 0) (b : Bool) (x : X) (xs : List X) → P x → Every P xs → Every P (cond b (x ∷ xs) xs)
unfolding Every
every_cond P true x xs p ps = (p, ps)
every_cond P false x xs p ps = ps

pub every_only : (G : Group) (p : ℕ) (s : List Item) → Every (λ (i : Item). Private G i.step) s → Every (Private G) (only p s)
unfolding Every only
every_only G p [] e = tt
every_only G p (i ∷ s) e = every_cond (Private G) (eqb i.place p) i.step (only p s) e.0 (every_only G p s e.1)

pub swap_first : (bytes : List ℕ) (st : Step) → first_call bytes (swap_step st) ≡ second_call bytes st
swap_first bytes dealt = refl
swap_first bytes (rejected a b) = refl
swap_first bytes (enters w a b) = refl
swap_first bytes (common c) = refl

pub swap_left : (st : Step) (ds : List Deal) → left (swap_step st) ds ≡ left st ds
swap_left dealt ds = refl
swap_left (rejected a b) ds = refl
swap_left (enters w a b) ds = refl
swap_left (common c) ds = refl

-- the two calls of a step are alike
pub same_ask : (x y : List ℕ) (st : Step) → ask (second_call y st) ≡ ask (first_call x st)
same_ask x y dealt = refl
same_ask x y (rejected a b) = refl
same_ask x y (enters w a b) = refl
same_ask x y (common c) = refl

pub same_lent : (x y : List ℕ) (st : Step) → lent (second_call y st) ≡ lent (first_call x st)
same_lent x y dealt = refl
same_lent x y (rejected a b) = refl
same_lent x y (enters w a b) = refl
same_lent x y (common c) = refl

-- a desk with other places
abbrev pub desk_of : Desk → List Control → Desk
desk_of base cs =
    record {
      party = base.party;
      parties = base.parties;
      inputs = base.inputs;
      gates = base.gates;
      looks = base.looks;
      outputs = base.outputs;
      own = base.own;
      places = cs;
    }

-- a HEAR of a waiting place is at a LOOK
pub looks_ok : (net : Net) (c : Control) (l : Bool) (a : Ask) → l ≡ true → (c.phase ≡ waiting → (ltb c.gate (length net.gates) && is_look (gate_at net c.gate)) ≡ true)
    → (not (is_hear a && l && fits a c.phase) || (ltb c.gate (length net.gates) && is_look (gate_at net c.gate))) ≡ true
looks_ok net c l STOCK e w = refl
looks_ok net c l ENTER e w = refl
looks_ok net c l TAKE e w = refl
looks_ok net c l WALK e w = refl
looks_ok net c l HEAR e w = rw e (go (is waiting c.phase) refl)
  where
    go : (b : Bool) → is waiting c.phase ≡ b → (not b || (ltb c.gate (length net.gates) && is_look (gate_at net c.gate))) ≡ true
    go true q = w (phase_is waiting c.phase q)
    go false q = refl
looks_ok net c l OPEN e w = refl
looks_ok net c l CLOSE e w = refl
looks_ok net c l DROP e w = refl

pub stop_number : (A B C : Bool) → cond A (cond B (cond C 10 9) 8) 8 ≤ 10
stop_number false B C = lit≤ tt
stop_number true false C = lit≤ tt
stop_number true true false = lit≤ tt
stop_number true true true = lit≤ tt

-- a call that the first tests stop is refused whatever it says
pub stop : (A B C E : Bool) (more : List Test) → (A && (C && E)) ≡ false
    → failing (or 9 A ∷ or 9 B ∷ or 10 C ∷ or 11 E ∷ more) ≡ suc (cond A (cond B (cond C 10 9) 8) 8)
stop false B C E more e = refl
stop true false C E more e = refl
stop true true false E more e = refl
stop true true true false more e = refl
stop true true true true more e = let z : ◌≡◌ {A = ℕ} 0 1 = cc in absurd (omega arith)

module _ (G : Group) (laws : Laws G) (net : Net) (valid : Valid net) (same : G.size ≡ net.size) (base : Desk) (own_party : base.party < net.parties)
    (counts : same_counts G.size net base ≡ true) (A : Type 0) where
  abbrev h : ℕ
  h = base.party

  pub record Ready (s : List Item) (ds : List Deal) : Type 0 where
    pub lawful : Every (Lawful G net) ds
    pub exact : length ds ≡ length (logs G net h s)
    pub agree : A → Agree G net h s ds

  ready_left : (p : ℕ) (st : Step) (s : List Item) (ds : List Deal) → Ready (item p st ∷ s) ds → Ready s (left st ds)
  unfolding logs Every AgreeBy
  ready_left p dealt s [] r = absurd (omega (arith, r.exact))
  ready_left p dealt s (d ∷ ds) r = record { lawful = r.lawful.1; exact = omega (arith, r.exact); agree = λ a. (r.agree a).1 }
  ready_left p (rejected a b) s ds r = record { lawful = r.lawful; exact = r.exact; agree = r.agree }
  ready_left p (enters w a b) s ds r = record { lawful = r.lawful; exact = r.exact; agree = r.agree }
  ready_left p (common c) s ds r = record { lawful = r.lawful; exact = r.exact; agree = r.agree }

  shifted_left : (p : ℕ) (st : Step) (s : List Item) (ds : List Deal) → Ready (item p st ∷ s) ds
      → left st (shifted G net h (item p st ∷ s) ds) ≡ shifted G net h s (left st ds)
  unfolding logs shifted_by
  shifted_left p dealt s [] r = absurd (omega (arith, r.exact))
  shifted_left p dealt s (d ∷ ds) r = refl
  shifted_left p (rejected a b) s ds r = refl
  shifted_left p (enters w a b) s ds r = refl
  shifted_left p (common c) s ds r = refl

  -- AN EMPTY PLACE

  takes_part : (c : Control) → c.phase ≡ empty → (d : Deal) → Lawful G net d → refusal net h c (stock (part net h d)) ≡ 0
  unfolding refusal
  takes_part c e d ok =
      rw (e, eq-eqb (length (part net h d)) (part_length net h) (part_length_lem G net h own_party d ok), codes_are G net same (part net h d) (part_codes G net h own_party d ok)) refl

  held_fresh : (F : Log) (d : Deal) → Held G net h F d (stocked net) (replicate (wires net) 0)
  held_fresh F d =
      record {
        long = length-replicate (wires net) 0;
        codes = codes_zeros G laws (wires net);
        ins = λ i l e. let f = get_or-replicate (inputs net) i false false l in let z : ◌≡◌ {A = ℕ} 0 1 = cc in absurd (omega arith);
        gates = λ k l. absurd (omega arith);
      }

  module _ (P Q : Place) (phase : P.control.phase ≡ empty) (alike : Q.control ≡ P.control) where
    both_refused : (sts : List Step) (x y : Call) (n : ℕ) → lent x ≡ lent y → refusal net h P.control x ≡ suc n → refusal net h Q.control y ≡ suc n
        → Next A G net h sts (acts G net h P x) (acts G net h Q y)
    both_refused sts x y n len u v =
        let a = act_refused G net h P x n u in
        let b = act_refused G net h Q y n v in
        record {
          answer = ap (λ (r : Reply). r.answer) a ∙ sym (ap (λ (r : Reply). r.answer) b);
          buffer = λ _. ap (λ (r : Reply). r.buffer) a ∙ len ∙ sym (ap (λ (r : Reply). r.buffer) b);
          places = idles (ap (λ (r : Reply). r.place.control.phase) a ∙ phase)
              (ap (λ (r : Reply). r.place.control) b ∙ alike ∙ sym (ap (λ (r : Reply). r.place.control) a));
        }

    refuses_other : (c : Control) → c.phase ≡ empty → (x : Call) → Other x → refusal net h c x ≡ 12
    unfolding refusal
    refuses_other c e (stock b) o = absurd o
    refuses_other c e (enter w v) o = absurd o
    refuses_other c e (takes w m) o = rw e refl
    refuses_other c e (walk b) o = rw e refl
    refuses_other c e (hear cs) o = rw e refl
    refuses_other c e (opens buf) o = rw e refl
    refuses_other c e (close cs buf) o = rw e refl
    refuses_other c e drops o = rw e refl

    refuses_enter : (c : Control) → c.phase ≡ empty → (w v : ℕ) → refusal net h c (enter w v) ≡ 12
    unfolding refusal
    refuses_enter c e w v = rw e refl

    phase' : Q.control.phase ≡ empty
    phase' = ap (λ (c : Control). c.phase) alike ∙ phase

    idle_dealt : (p : ℕ) (s : List Item) (d : Deal) → Lawful G net d → Every (Private G) (only p s) → (A → Agreed G net h (log_from G net h (stocked net) (fresh net) (only p s)) d)
        → Next A G net h (only p s) (acts G net h P (stock (part net h d))) (acts G net h Q (stock (part net h (shift G net h (log_from G net h (stocked net) (fresh net) (only p s)) d))))
    idle_dealt p s d ok privates agreed =
        let F = log_from G net h (stocked net) (fresh net) (only p s) in
        let kept = given_fresh G laws net same h in
        let sane = (final G laws net same h (only p s) (stocked net) (fresh net) kept privates).1 in
        let d' = shift G net h F d in
        let a = act_accepted G net h P (stock (part net h d)) (takes_part P.control phase d ok) refl in
        let b = act_accepted G net h Q (stock (part net h d')) (takes_part Q.control phase' d' (sh.lawful G laws net valid same h F sane d ok own_party)) refl in
        record {
          answer = ap (λ (x : Reply). x.answer) a ∙ sym (ap (λ (x : Reply). x.answer) b);
          buffer = λ _. ap (λ (x : Reply). x.buffer) a ∙ sym (ap (λ (x : Reply). x.buffer) b);
          places = busy
              (record {
                control = stocked net;
                wires = replicate (wires net) 0;
                deal = d;
                log = fresh net;
                lawful = ok;
                kept = kept;
                agreed = agreed;
                held = held_fresh F d;
                first = ap (λ (x : Reply). x.place) a;
                second = ap (λ (x : Reply). x.place) b;
              });
        }

    idle_rejected : (sts : List Step) (a b : List ℕ) (n : ℕ) → refusal net h P.control (stock a) ≡ n → (refusal net h P.control (stock a) ≡ 0 → ⊥) → refusal net h P.control (stock b) ≡ refusal net h P.control (stock a)
        → Next A G net h sts (acts G net h P (stock a)) (acts G net h Q (stock b))
    idle_rejected sts a b zero e deny q = absurd (deny e)
    idle_rejected sts a b (suc n) e deny q = both_refused sts (stock a) (stock b) n refl e (ap (λ (c : Control). refusal net h c (stock b)) alike ∙ q ∙ e)

  -- bytes that an empty place refuses, alike in both
  abbrev Denied : Control → Step → Type 0
  Denied c dealt = Unit {0}
  Denied c (rejected a b) = (refusal net h c (stock a) ≡ 0 → ⊥) × (refusal net h c (stock b) ≡ refusal net h c (stock a))
  Denied c (enters w a b) = Unit {0}
  Denied c (common x) = Unit {0}

  idle_step : (p : ℕ) (st : Step) (s : List Item) (ds : List Deal) (P Q : Place) → P.control.phase ≡ empty → Q.control ≡ P.control
      → Ready (item p st ∷ s) ds → Private G st → Every (Private G) (only p s) → Denied P.control st
      → Next A G net h (only p s) (acts G net h P (first_call (top_part net h ds) st)) (acts G net h Q (second_call (top_part net h (shifted G net h (item p st ∷ s) ds)) st))
  unfolding logs shifted_by Every AgreeBy
  idle_step p dealt s [] P Q x y r pr e deny = absurd (omega (arith, r.exact))
  idle_step p dealt s (d ∷ ds) P Q x y r pr e deny = idle_dealt P Q x y p s d r.lawful.0 e (λ a. (r.agree a).0)
  idle_step p (rejected a b) s ds P Q x y r pr e deny = idle_rejected P Q x y (only p s) a b (refusal net h P.control (stock a)) refl deny.0 deny.1
  idle_step p (enters w a b) s ds P Q x y r pr e deny =
      both_refused P Q x y (only p s) (enter w a) (enter w b) 11 refl (refuses_enter P Q x y P.control x w a) (refuses_enter P Q x y Q.control (phase' P Q x y) w b)
  idle_step p (common c) s ds P Q x y r pr e deny =
      both_refused P Q x y (only p s) c c 11 refl (refuses_other P Q x y P.control x c pr) (refuses_other P Q x y Q.control (phase' P Q x y) c pr)

  one_step : (p : ℕ) (st : Step) (s : List Item) (ds : List Deal) (P Q : Place) → Ready (item p st ∷ s) ds → Private G st → Every (Private G) (only p s) → Denied P.control st
      → Rel A G net h (st ∷ only p s) P Q
      → Next A G net h (only p s) (acts G net h P (first_call (top_part net h ds) st)) (acts G net h Q (second_call (top_part net h (shifted G net h (item p st ∷ s) ds)) st))
  one_step p st s ds P Q r pr e deny (idles x y) = idle_step p st s ds P Q x y r pr e deny
  one_step p st s ds P Q r pr e deny (busy b) =
      rw (b.first, b.second)
      (busy_step G laws net valid same h own_party b.control b.log b.kept b.deal b.lawful b.wires (only p s) e A st pr
      (top_part net h ds) (top_part net h (shifted G net h (item p st ∷ s) ds)) b.agreed b.held)

  rel_control : (sts : List Step) (P Q : Place) → Rel A G net h sts P Q → Q.control ≡ P.control
  rel_control sts P Q (idles x y) = y
  rel_control sts P Q (busy b) = ap (λ (z : Place). z.control) b.second ∙ sym (ap (λ (z : Place). z.control) b.first)

  -- a place's bytes refuse nothing
  idle_verdict : (P : Place) → P.control.phase ≡ empty → (x : Call) → verdict net h P x ≡ refusal net h P.control x
  idle_verdict P e (stock b) = verdict_read net h P (stock b) refl
  idle_verdict P e (enter w v) = let q = refuses_enter P P e refl P.control e w v in verdict_refused net h P (enter w v) 11 q ∙ sym q
  idle_verdict P e (takes w m) = let q = refuses_other P P e refl P.control e (takes w m) tt in verdict_refused net h P (takes w m) 11 q ∙ sym q
  idle_verdict P e (walk b) = let q = refuses_other P P e refl P.control e (walk b) tt in verdict_refused net h P (walk b) 11 q ∙ sym q
  idle_verdict P e (hear cs) = let q = refuses_other P P e refl P.control e (hear cs) tt in verdict_refused net h P (hear cs) 11 q ∙ sym q
  idle_verdict P e (opens buf) = let q = refuses_other P P e refl P.control e (opens buf) tt in verdict_refused net h P (opens buf) 11 q ∙ sym q
  idle_verdict P e (close cs buf) = let q = refuses_other P P e refl P.control e (close cs buf) tt in verdict_refused net h P (close cs buf) 11 q ∙ sym q
  idle_verdict P e drops = let q = refuses_other P P e refl P.control e drops tt in verdict_refused net h P drops 11 q ∙ sym q

  place_verdict : (sts : List Step) (P Q : Place) → Rel A G net h sts P Q → (x : Call) → verdict net h P x ≡ refusal net h P.control x
  place_verdict sts P Q (idles e y) x = idle_verdict P e x
  place_verdict sts P Q (busy b) x =
      verdict_read net h P x
      (ap (λ (z : Place). readable net (z.part ++ z.wires) (ask x)) b.first
      ∙ can_read G laws net valid same h own_party b.control (part net h b.deal) b.wires (part_codes G net h own_party b.deal b.lawful) b.held.codes x)

  -- a place that waits is at a LOOK
  waits_at : (sts : List Step) (P Q : Place) → Rel A G net h sts P Q → P.control.phase ≡ waiting
      → (ltb P.control.gate (length net.gates) && is_look (gate_at net P.control.gate)) ≡ true
  waits_at sts P Q (idles x y) w = let z : empty ≡ waiting = sym x ∙ w in let z : ◌≡◌ {A = ℕ} 0 1 = cc in absurd (omega arith)
  waits_at sts P Q (busy b) w =
      let e : P.control ≡ b.control = ap (λ (z : Place). z.control) b.first in
      let s : Stage net b.control.given b.control.gate waiting
      = subst (λ (p : Phase). Stage net b.control.given b.control.gate p) (sym (ap (λ (c : Control). c.phase) e) ∙ w) b.kept.stage in
      let (f, t, q) = s.2 in
      ap (λ (c : Control). ltb c.gate (length net.gates) && is_look (gate_at net c.gate)) e
      ∙ and_from _ _ (lt-ltb b.control.gate (length net.gates) s.1) (ap is_look q)

  -- THE SHELF

  pub record Rels (s : List Item) (cs : List Control) (xs ys : List ℕ) : Type 0 where
    pub long : length xs ≡ length ys
    pub room : length cs * room_length net h ≤ length xs
    pub each_place : (p : ℕ) → p < length cs → Rel A G net h (only p s) (place_of net (desk_of base cs) xs p) (place_of net (desk_of base cs) ys p)

  -- one side of a step that reaches its place
  module _ (cs : List Control) (xs : List ℕ) (p : ℕ) (x : Call) (proper : Proper G net (desk_of base cs) xs p x) where
    abbrev D : Desk
    D = desk_of base cs

    abbrev R : Reply
    R = act G net h (place_of net (desk_of base cs) xs p) x

    abbrev T : Served
    T = serve G net (desk_of base cs) xs p x

    L : Lifted G net (desk_of base cs) xs p x
    L = lift G net (desk_of base cs) xs p x proper

    moved_here : (c : Control) → R.place.control ≡ c → place_of net (desk_of base (set cs p c)) T.shelf p ≡ R.place
    moved_here c e =
        ap (λ (c : Control). place_of net (desk_of base (set cs p c)) T.shelf p) (sym e)
        ∙ ap (λ (d : Desk). place_of net d T.shelf p) (sym L.desk) ∙ L.here

    moved_other : (c : Control) → R.place.control ≡ c → (o : ℕ) → o < length cs → (o ≡ p → ⊥)
        → place_of net (desk_of base (set cs p c)) T.shelf o ≡ place_of net (desk_of base cs) xs o
    moved_other c e o l n =
        ap (λ (c : Control). place_of net (desk_of base (set cs p c)) T.shelf o) (sym e)
        ∙ ap (λ (d : Desk). place_of net d T.shelf o) (sym L.desk) ∙ L.others o l n

    moved_desk : (c : Control) → R.place.control ≡ c → T.desk ≡ desk_of base (set cs p c)
    moved_desk c e = L.desk ∙ ap (λ (c : Control). desk_of base (set cs p c)) e

    stock_verdict : (z : List ℕ) → x ≡ stock z → shelf_verdict G.size net (desk_of base cs) xs p (stock z) ≡ refusal net h (get_or cs p nowhere) (stock z)
    stock_verdict z e =
        let q : Proper G net (desk_of base cs) xs p (stock z) = subst (λ (y : Call). Proper G net (desk_of base cs) xs p y) e proper in
        same_verdict G net (desk_of base cs) xs p (stock z) q ∙ verdict_read net h (place_of net (desk_of base cs) xs p) (stock z) refl

  -- a part that is stocked, and another deal's
  part_verdict : (d e : Deal) → Lawful G net d → Lawful G net e → (D : Desk) → D.party ≡ h → (len p : ℕ) (c : Control)
      → failing (frame G.size net D len p STOCK (or 15 (eqb (length (part net h d)) (part_length net h)) ∷ or 16 (are_codes net.size (part net h d)) ∷ or 17 true ∷ []))
      ≡ failing (frame G.size net D len p STOCK (or 15 (eqb (length (part net h e)) (part_length net h)) ∷ or 16 (are_codes net.size (part net h e)) ∷ or 17 true ∷ []))
  part_verdict d e ok ok' D q len p c =
      ap₂ (λ (a b : Bool). failing (frame G.size net D len p STOCK (or 15 a ∷ or 16 b ∷ or 17 true ∷ [])))
      (eq-eqb _ _ (part_length_lem G net h own_party d ok) ∙ sym (eq-eqb _ _ (part_length_lem G net h own_party e ok')))
      (codes_are G net same (part net h d) (part_codes G net h own_party d ok) ∙ sym (codes_are G net same (part net h e) (part_codes G net h own_party e ok')))

  -- a call to no place
  fm : Desk → ℕ → Ask → ℕ → ℕ
  fm D p a len = cond (same_counts G.size net D) (cond (at_look net D p a) (cond (leb (length D.places * room_length net D.party) len) 10 9) 8) 8

  fm_below : (D : Desk) (p : ℕ) (a : Ask) (len : ℕ) → fm D p a len ≤ 10
  unfolding fm
  fm_below D p a len = stop_number (same_counts G.size net D) (at_look net D p a) (leb (length D.places * room_length net D.party) len)

  serve_refused : (D : Desk) (xs : List ℕ) (p : ℕ) (x : Call) (n : ℕ) → shelf_verdict G.size net D xs p x ≡ suc n → serve G net D xs p x ≡ refusing D xs (lent x) (suc n)
  serve_refused D xs p x n e =
      ap (λ v. cond (eqb v 0) (accepted G net D xs p x (control_at D p)) (refusing D xs (lent x) v)) e
      ∙ ap (λ b. cond b (accepted G net D xs p x (control_at D p)) (refusing D xs (lent x) (suc n))) (eqb-suc-zero n)

  no_place : (D : Desk) (xs : List ℕ) (p : ℕ) (x : Call) → length D.places ≤ p → shelf_verdict G.size net D xs p x ≡ suc (fm D p (ask x) (length xs))
  unfolding fm
  no_place D xs p x l =
      let A = same_counts G.size net D in
      let C = leb (length D.places * room_length net D.party) (length xs) in
      let E = ltb p (length D.places) in
      stop A (at_look net D p (ask x)) C E (or 12 (fits (ask x) (control_at D p).phase) ∷ own net D.party (control_at D p) (room_at net D.party xs p) x)
      (and_right A (C && E) (and_right C E (le-ltb p (length D.places) l)))

  abbrev stock_at : Desk → ℕ → ℕ → List ℕ → ℕ
  stock_at D len p z = failing (frame G.size net D len p STOCK (own net D.party (control_at D p) [] (stock z)))

  goes_swap : (p : ℕ) (st : Step) (s : List Item) (ds : List Deal) (cs : List Control) (xs ys : List ℕ) → Ready (item p st ∷ s) ds → Every (Private G) (only p s) → length xs ≡ length ys
      → Goes G.size net (desk_of base cs) xs p (top_part net h ds) st
      → Goes G.size net (desk_of base cs) ys p (top_part net h (shifted G net h (item p st ∷ s) ds)) (swap_step st)
  unfolding logs shifted_by Every
  goes_swap p dealt s [] cs xs ys r e long g = absurd (omega (arith, r.exact))
  goes_swap p dealt s (d ∷ ds) cs xs ys r e long g =
      let F = log_from G net h (stocked net) (fresh net) (only p s) in
      let sane = (final G laws net same h (only p s) (stocked net) (fresh net) (given_fresh G laws net same h) e).1 in
      let ok' = sh.lawful G laws net valid same h F sane d r.lawful.0 own_party in
      ap (λ len. stock_at (desk_of base cs) len p (part net h (shift G net h F d))) (sym long)
      ∙ part_verdict (shift G net h F d) d ok' r.lawful.0 (desk_of base cs) refl (length xs) p (get_or cs p nowhere) ∙ g
  goes_swap p (rejected a b) s ds cs xs ys r e long g =
      let u = ap (λ len. stock_at (desk_of base cs) len p a) long in
      let v = ap (λ len. stock_at (desk_of base cs) len p b) long in (
        (λ z. g.0 (sym g.1 ∙ v ∙ z)),
        sym u ∙ sym g.1 ∙ v,
      )
  goes_swap p (enters w a b) s ds cs xs ys r e long g = tt
  goes_swap p (common c) s ds cs xs ys r e long g = tt

  pub record Both (s : List Item) (ds : List Deal) (cs : List Control) (xs ys : List ℕ) : Type 0 where
    pub answers : A → runs G net (desk_of base cs) xs (firsts net h s ds) ≡ runs G net (desk_of base cs) ys (seconds net h s (shifted G net h s ds))
    pub goes : GoesAll G net h (desk_of base cs) ys (map swap_item s) (shifted G net h s ds)
    pub read : ReadAll G net h (desk_of base cs) xs s ds

  -- a step and the rest
  module _ (p : ℕ) (st : Step) (s : List Item) (ds : List Deal) (cs cs' : List Control) (xs ys xs' ys' : List ℕ) where
    abbrev ds' : List Deal
    ds' = shifted G net h (item p st ∷ s) ds

    abbrev x : Call
    x = first_call (top_part net h ds) st

    abbrev y : Call
    y = second_call (top_part net h (shifted G net h (item p st ∷ s) ds)) st

    joined : Ready (item p st ∷ s) ds → Every (Private G) (only p s) → length xs ≡ length ys → Goes G.size net (desk_of base cs) xs p (top_part net h ds) st
        → (shelf_verdict G.size net (desk_of base cs) xs p x ≡ 17 → ⊥)
        → (A → seen (serve G net (desk_of base cs) xs p x) ≡ seen (serve G net (desk_of base cs) ys p y))
        → (serve G net (desk_of base cs) xs p x).desk ≡ desk_of base cs' → (serve G net (desk_of base cs) xs p x).shelf ≡ xs'
        → (serve G net (desk_of base cs) ys p y).desk ≡ desk_of base cs' → (serve G net (desk_of base cs) ys p y).shelf ≡ ys'
        → Both s (left st ds) cs' xs' ys' → Both (item p st ∷ s) ds cs xs ys
    unfolding runs firsts seconds GoesAll ReadAll
    joined r e long g never same_seen dx sx dy sy rest =
        record {
          answers = λ a.
              ap₂ (λ (u : Seen) (v : List Seen). u ∷ v) (same_seen a)
              (ap₂ (λ (d : Desk) (z : List ℕ). runs G net d z (firsts net h s (left st ds))) dx sx ∙ rest.answers a
              ∙ ap₂ (λ (d : Desk) (z : List ℕ). runs G net d z (seconds net h s (shifted G net h s (left st ds)))) (sym dy) (sym sy)
              ∙ ap (λ (es : List Deal). runs G net (serve G net (desk_of base cs) ys p y).desk (serve G net (desk_of base cs) ys p y).shelf (seconds net h s es)) (sym (shifted_left p st s ds r)));
          goes = (
            goes_swap p st s ds cs xs ys r e long g,
            subst (λ (z : Call). GoesAll G net h (serve G net (desk_of base cs) ys p z).desk (serve G net (desk_of base cs) ys p z).shelf (map swap_item s) (left (swap_step st) ds'))
                (sym (swap_first (top_part net h ds') st))
                (subst (λ (es : List Deal). GoesAll G net h (serve G net (desk_of base cs) ys p y).desk (serve G net (desk_of base cs) ys p y).shelf (map swap_item s) es)
                (sym (shifted_left p st s ds r) ∙ sym (swap_left st ds'))
                (subst (λ (d : Desk). GoesAll G net h d (serve G net (desk_of base cs) ys p y).shelf (map swap_item s) (shifted G net h s (left st ds))) (sym dy)
                (subst (λ (z : List ℕ). GoesAll G net h (desk_of base cs') z (map swap_item s) (shifted G net h s (left st ds))) (sym sy) rest.goes))),
          );
          read = (
            never,
            subst (λ (d : Desk). ReadAll G net h d (serve G net (desk_of base cs) xs p x).shelf s (left st ds)) (sym dx)
                (subst (λ (z : List ℕ). ReadAll G net h (desk_of base cs') z s (left st ds)) (sym sx) rest.read),
          );
        }

  -- a step whose place there is not
  past_step : (p : ℕ) (st : Step) (s : List Item) (ds : List Deal) (cs : List Control) (xs ys : List ℕ) → length cs ≤ p
      → Ready (item p st ∷ s) ds → Every (Private G) (only p s) → Rels (item p st ∷ s) cs xs ys → Goes G.size net (desk_of base cs) xs p (top_part net h ds) st
      → GoesAll G net h (serve G net (desk_of base cs) xs p (first_call (top_part net h ds) st)).desk (serve G net (desk_of base cs) xs p (first_call (top_part net h ds) st)).shelf s (left st ds)
      → (Rels s cs xs ys → GoesAll G net h (desk_of base cs) xs s (left st ds) → Both s (left st ds) cs xs ys)
      → Both (item p st ∷ s) ds cs xs ys
  past_step p st s ds cs xs ys l r e rels g goes rec =
      let D = desk_of base cs in
      let x = first_call (top_part net h ds) st in
      let y = second_call (top_part net h (shifted G net h (item p st ∷ s) ds)) st in
      let n = fm D p (ask x) (length xs) in
      let tx = serve_refused D xs p x n (no_place D xs p x l) in
      let vy : shelf_verdict G.size net D ys p y ≡ suc n
      = no_place D ys p y l ∙ ap₂ (λ a len. suc (fm D p a len)) (same_ask (top_part net h ds) (top_part net h (shifted G net h (item p st ∷ s) ds)) st) (sym rels.long) in
      let ty = serve_refused D ys p y n vy in
      let len : lent x ≡ lent y = sym (same_lent (top_part net h ds) (top_part net h (shifted G net h (item p st ∷ s) ds)) st) in
      joined p st s ds cs cs xs ys xs ys r e rels.long g
      (λ q. let z = fm_below D p (ask x) (length xs) in let w : suc n ≡ 17 = sym (no_place D xs p x l) ∙ q in omega arith)
      (λ _. ap seen tx ∙ ap (λ b. record { answer = refused (suc n); buffer = b }) len ∙ sym (ap seen ty))
      (ap (λ (t : Served). t.desk) tx) (ap (λ (t : Served). t.shelf) tx) (ap (λ (t : Served). t.desk) ty) (ap (λ (t : Served). t.shelf) ty)
      (rec
      (record {
        long = rels.long;
        room = rels.room;
        each_place = λ q m.
            subst (λ (z : List Step). Rel A G net h z (place_of net D xs q) (place_of net D ys q)) (only_other p q st s (λ z. absurd (omega arith))) (rels.each_place q m);
      })
      (subst (λ (t : Served). GoesAll G net h t.desk t.shelf s (left st ds)) tx goes))

  deny_of : (p : ℕ) (st : Step) (cs : List Control) (xs : List ℕ) (bytes : List ℕ) → ((z : Call) → Proper G net (desk_of base cs) xs p z)
      → Goes G.size net (desk_of base cs) xs p bytes st → Denied (get_or cs p nowhere) st
  deny_of p dealt cs xs bytes proper g = tt
  deny_of p (rejected a b) cs xs bytes proper g =
      let u = stock_verdict cs xs p (stock a) (proper (stock a)) a refl in
      let v = stock_verdict cs xs p (stock b) (proper (stock b)) b refl in
      ((λ z. g.0 (u ∙ z)), sym v ∙ g.1 ∙ u)
  deny_of p (enters w a b) cs xs bytes proper g = tt
  deny_of p (common c) cs xs bytes proper g = tt

  -- a step that reaches its place
  module _ (p : ℕ) (st : Step) (s : List Item) (ds : List Deal) (cs : List Control) (xs ys : List ℕ) (there : p < length cs)
      (r : Ready (item p st ∷ s) ds) (pr : Private G st) (e : Every (Private G) (only p s)) (rels : Rels (item p st ∷ s) cs xs ys)
      (g : Goes G.size net (desk_of base cs) xs p (top_part net h ds) st) where
    abbrev P : Place
    P = place_of net (desk_of base cs) xs p

    abbrev Q : Place
    Q = place_of net (desk_of base cs) ys p

    abbrev X : Call
    X = first_call (top_part net h ds) st

    abbrev Y : Call
    Y = second_call (top_part net h (shifted G net h (item p st ∷ s) ds)) st

    abbrev TX : Served
    TX = serve G net (desk_of base cs) xs p (first_call (top_part net h ds) st)

    abbrev TY : Served
    TY = serve G net (desk_of base cs) ys p (second_call (top_part net h (shifted G net h (item p st ∷ s) ds)) st)

    rel : Rel A G net h (st ∷ only p s) P Q
    rel = subst (λ (z : List Step). Rel A G net h z P Q) (only_same p st s) (rels.each_place p there)

    look : (z : Call) → at_look net (desk_of base cs) p (ask z) ≡ true
    look z = looks_ok net (get_or cs p nowhere) (ltb p (length cs)) (ask z) (lt-ltb p (length cs) there) (waits_at (st ∷ only p s) P Q rel)

    px : (z : Call) → Proper G net (desk_of base cs) xs p z
    px z = record { counts = counts; look = look z; long = rels.room; there = there }

    py : (z : Call) → Proper G net (desk_of base cs) ys p z
    py z = record { counts = counts; look = look z; long = rw (← rels.long) rels.room; there = there }

    next : Next A G net h (only p s) (acts G net h P X) (acts G net h Q Y)
    next = one_step p st s ds P Q r pr e (deny_of p st cs xs (top_part net h ds) px g) rel

    ax : acts G net h P X ≡ act G net h P X
    ax = acts_is G net h P X

    ay : acts G net h Q Y ≡ act G net h Q Y
    ay = acts_is G net h Q Y

    -- how far the place then is, in both
    abbrev cx : Control
    cx = (act G net h (place_of net (desk_of base cs) xs p) (first_call (top_part net h ds) st)).place.control

    cy : (act G net h Q Y).place.control ≡ cx
    cy =
        sym (ap (λ (r : Reply). r.place.control) ay) ∙ rel_control (only p s) (acts G net h P X).place (acts G net h Q Y).place next.places
        ∙ ap (λ (r : Reply). r.place.control) ax

    same_seen : A → seen TX ≡ seen TY
    same_seen a =
        ap₂ (λ (a : Answer) (b : List ℕ). record { answer = a; buffer = b })
        ((L cs xs p X (px X)).answer ∙ ap (λ (r : Reply). r.answer) (sym ax) ∙ next.answer ∙ ap (λ (r : Reply). r.answer) ay ∙ sym (L cs ys p Y (py Y)).answer)
        ((L cs xs p X (px X)).buffer ∙ ap (λ (r : Reply). r.buffer) (sym ax) ∙ next.buffer a ∙ ap (λ (r : Reply). r.buffer) ay ∙ sym (L cs ys p Y (py Y)).buffer)

    here : Rel A G net h (only p s) (place_of net (desk_of base (set cs p cx)) TX.shelf p) (place_of net (desk_of base (set cs p cx)) TY.shelf p)
    here =
        let a : (acts G net h P X).place ≡ place_of net (desk_of base (set cs p cx)) TX.shelf p = ap (λ (r : Reply). r.place) ax ∙ sym (moved_here cs xs p X (px X) cx refl) in
        let b : (acts G net h Q Y).place ≡ place_of net (desk_of base (set cs p cx)) TY.shelf p = ap (λ (r : Reply). r.place) ay ∙ sym (moved_here cs ys p Y (py Y) cx cy) in
        subst (λ (z : Place). Rel A G net h (only p s) z (place_of net (desk_of base (set cs p cx)) TY.shelf p)) a
        (subst (λ (z : Place). Rel A G net h (only p s) (acts G net h P X).place z) b next.places)

    each_after : (q : ℕ) → q < length cs → (q ≡ p) ⊎ (q ≡ p → ⊥)
        → Rel A G net h (only q s) (place_of net (desk_of base (set cs p cx)) TX.shelf q) (place_of net (desk_of base (set cs p cx)) TY.shelf q)
    each_after q l (inl eq) =
        subst (λ (q : ℕ). Rel A G net h (only q s) (place_of net (desk_of base (set cs p cx)) TX.shelf q) (place_of net (desk_of base (set cs p cx)) TY.shelf q)) (sym eq) here
    each_after q l (inr n) =
        let o : only q (item p st ∷ s) ≡ only q s = only_other p q st s (λ z. n (sym z)) in
        let a = moved_other cs xs p X (px X) cx refl q l n in
        let b = moved_other cs ys p Y (py Y) cx cy q l n in
        subst (λ (z : Place). Rel A G net h (only q s) z (place_of net (desk_of base (set cs p cx)) TY.shelf q)) (sym a)
        (subst (λ (z : Place). Rel A G net h (only q s) (place_of net (desk_of base cs) xs q) z) (sym b)
        (subst (λ (z : List Step). Rel A G net h z (place_of net (desk_of base cs) xs q) (place_of net (desk_of base cs) ys q)) o (rels.each_place q l)))

    after_rels : Rels s (set cs p cx) TX.shelf TY.shelf
    after_rels =
        record {
          long = (L cs xs p X (px X)).length_kept ∙ rels.long ∙ sym (L cs ys p Y (py Y)).length_kept;
          room = rw (length-set cs p cx, (L cs xs p X (px X)).length_kept) rels.room;
          each_place = λ q l. each_after q (rw (length-set cs p cx) at l) (cases_eq q p);
        }

    never : shelf_verdict G.size net (desk_of base cs) xs p X ≡ 17 → ⊥
    never q =
        let z = refusal_below net h (get_or cs p nowhere) X in
        let w : refusal net h (get_or cs p nowhere) X ≡ 17 = sym (place_verdict (st ∷ only p s) P Q rel X) ∙ sym (same_verdict G net (desk_of base cs) xs p X (px X)) ∙ q in
        omega arith

    place_step : GoesAll G net h TX.desk TX.shelf s (left st ds)
        → ((cs' : List Control) (xs' ys' : List ℕ) → Rels s cs' xs' ys' → GoesAll G net h (desk_of base cs') xs' s (left st ds) → Both s (left st ds) cs' xs' ys')
        → Both (item p st ∷ s) ds cs xs ys
    place_step goes rec =
        joined p st s ds cs (set cs p cx) xs ys TX.shelf TY.shelf r e rels.long g never same_seen
        (moved_desk cs xs p X (px X) cx refl) refl (moved_desk cs ys p Y (py Y) cx cy) refl
        (rec (set cs p cx) TX.shelf TY.shelf after_rels
        (subst (λ (d : Desk). GoesAll G net h d TX.shelf s (left st ds)) (moved_desk cs xs p X (px X) cx refl) goes))

  pub all : (s : List Item) (ds : List Deal) (cs : List Control) (xs ys : List ℕ) → Every (λ (i : Item). Private G i.step) s → GoesAll G net h (desk_of base cs) xs s ds
      → Ready s ds → Rels s cs xs ys → Both s ds cs xs ys
  unfolding runs firsts seconds GoesAll ReadAll Every
  all [] ds cs xs ys pr goes r rels = record { answers = λ _. refl; goes = tt; read = tt }
  all (i ∷ s) ds cs xs ys pr goes r rels =
      go (cases_lt i.place (length cs)) (λ cs' xs' ys' rels' goes'. all s (left i.step ds) cs' xs' ys' pr.1 goes' (ready_left i.place i.step s ds r) rels')
    where
      go : (i.place < length cs) ⊎ (length cs ≤ i.place)
          → ((cs' : List Control) (xs' ys' : List ℕ) → Rels s cs' xs' ys' → GoesAll G net h (desk_of base cs') xs' s (left i.step ds) → Both s (left i.step ds) cs' xs' ys')
          → Both (i ∷ s) ds cs xs ys
      go (inl l) rec =
          place_step i.place i.step s ds cs xs ys l r pr.0 (every_only G i.place s pr.1) rels goes.0 goes.1 rec
      go (inr l) rec =
          past_step i.place i.step s ds cs xs ys l r (every_only G i.place s pr.1) rels goes.0 goes.1 (λ rels' goes'. rec cs xs ys rels' goes')
