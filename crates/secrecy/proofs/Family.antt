-- The shift of a family by a script: lawful, the same to the others, and undone by the exchanged script.
use Rattle.std.proofs.Common.{◌≡◌, ℕ, zero, suc, ◌<◌, Bool, true, false, cond, eqb, List, [], ◌∷◌, ◌++◌, map, length, replicate, sym, refl, ap, ◌∙◌, ap₂, inl, inr}
use Rattle.std.proofs.lemmas.List.{map-set}
use Rattle.groups.specs.Group.{Group, Laws}
use Rattle.model.specs.Words.{at}
use Rattle.model.specs.Net.{Net, Valid, inputs}
use Rattle.model.specs.Deal.{Deal, Lawful, part}
use Rattle.model.proofs.Masks.{own_same}
use Rattle.model.specs.Host.{Call, stock, enter, takes, walk, hear, opens, close, drops, Control, stocked, turn}
use Rattle.secrecy.specs.Evaluation.{Given, missing, entered, taken, Log, shift, swapped, swap, Sane}
use Rattle.secrecy.specs.Script.{Step, dealt, rejected, enters, common, Item, At, to, first_call, top_part, left, firsts, seconds, swap_step, swap_item, refusal, giving, note_common, note, ends, log_from, fresh, only, logs, shifted_by, Every, Private, AgreeBy, SameToOthers, AllSame}
use Rattle.secrecy.proofs.Shift as sh
use Rattle.secrecy.proofs.Back as bk
use Rattle.secrecy.proofs.Control.{Kept}
use Rattle.secrecy.proofs.Keep.{busy_refuses, step_kept, given_fresh, final}
use Rattle.secrecy.proofs.Side.{same_verdict, log_refused, log_on, log_over}
use Rattle.secrecy.proofs.Whole.{every_only, swap_first, swap_left}

module _ (G : Group) (laws : Laws G) (net : Net) (same : G.size ≡ net.size) (h : ℕ) where
  evaluation : (p : ℕ) (s : List Item) → Every (λ (i : Item). Private G i.step) s → Sane G net h (log_from G net h (stocked net) (fresh net) (only p s))
  evaluation p s e = (final G laws net same h (only p s) (stocked net) (fresh net) (given_fresh G laws net same h) (every_only G p s e)).1

  pub logs_sane : (s : List Item) → Every (λ (i : Item). Private G i.step) s → Every (Sane G net h) (logs G net h s)
  unfolding logs Every
  logs_sane [] e = tt
  logs_sane (i ∷ s) e = go i.step (logs_sane s e.1)
    where
      go : (st : Step) → Every (Sane G net h) (logs G net h s) → Every (Sane G net h) (logs G net h (record { place = i.place; step = st } ∷ s))
      go dealt rest = (evaluation i.place s e.1, rest)
      go (rejected a b) rest = rest
      go (enters w a b) rest = rest
      go (common c) rest = rest

  -- exchanged steps
  module _ (c : Control) (log : Log) (kept : Kept G net h c log) where
    swap_verdict : (st : Step) → Private G st → refusal net h c (first_call [] (swap_step st)) ≡ refusal net h c (first_call [] st)
    swap_verdict dealt p = refl
    swap_verdict (rejected a b) p = busy_refuses G net same h c c.phase refl kept.stage b ∙ sym (busy_refuses G net same h c c.phase refl kept.stage a)
    swap_verdict (enters w a b) p = sym (same_verdict G net same h c w a b p)
    swap_verdict (common q) p = refl

    swap_turn : (st : Step) → turn net c (first_call [] (swap_step st)) ≡ turn net c (first_call [] st)
    swap_turn dealt = refl
    swap_turn (rejected a b) = refl
    swap_turn (enters w a b) = refl
    swap_turn (common q) = refl

    swap_ends : (st : Step) → ends (swap_step st) ≡ ends st
    swap_ends dealt = refl
    swap_ends (rejected a b) = refl
    swap_ends (enters w a b) = refl
    swap_ends (common q) = refl

    swap_giving : (w : ℕ) (g : Given) → giving (swap log) w (swapped g) ≡ swap (giving log w g)
    swap_giving w g =
        ap (λ (x : List Given). record { given = x; heard = log.heard; shared = log.shared; opened = log.opened }) (sym (map-set swapped log.given w g))

    swap_common : (q : Call) → note_common G net c (swap log) q ≡ swap (note_common G net c log q)
    swap_common (stock b) = refl
    swap_common (enter w v) = refl
    swap_common (takes w m) = swap_giving w (taken m)
    swap_common (walk b) = refl
    swap_common (hear cs) = refl
    swap_common (opens buf) = refl
    swap_common (close cs buf) = refl
    swap_common drops = refl

    swap_note : (st : Step) → note G net c (swap log) (swap_step st) ≡ swap (note G net c log st)
    swap_note dealt = refl
    swap_note (rejected a b) = refl
    swap_note (enters w a b) = swap_giving w (entered a b)
    swap_note (common q) = swap_common q

  swap_log : (sts : List Step) (c : Control) (log : Log) → Kept G net h c log → Every (Private G) sts
      → log_from G net h c (swap log) (map swap_step sts) ≡ swap (log_from G net h c log sts)
  unfolding log_from Every
  swap_log [] c log k e = refl
  swap_log (st ∷ sts) c log k e = go (refusal net h c (first_call [] st)) (ends st) refl refl (λ c' log' k'. swap_log sts c' log' k' e.1)
    where
      v : refusal net h c (first_call [] (swap_step st)) ≡ refusal net h c (first_call [] st)
      v = swap_verdict c log k st e.0

      go : (n : ℕ) (o : Bool) → refusal net h c (first_call [] st) ≡ n → ends st ≡ o
          → ((c' : Control) (log' : Log) → Kept G net h c' log' → log_from G net h c' (swap log') (map swap_step sts) ≡ swap (log_from G net h c' log' sts))
          → log_from G net h c (swap log) (swap_step st ∷ map swap_step sts) ≡ swap (log_from G net h c log (st ∷ sts))
      go (suc n) o p q rec =
          log_refused G net h c (swap log) (swap_step st) (map swap_step sts) n (v ∙ p) ∙ rec c log k ∙ ap swap (sym (log_refused G net h c log st sts n p))
      go zero true p q rec =
          log_over G net h c (swap log) (swap_step st) (map swap_step sts) (v ∙ p) (swap_ends c log k st ∙ q) ∙ ap swap (sym (log_over G net h c log st sts p q))
      go zero false p q rec =
          log_on G net h c (swap log) (swap_step st) (map swap_step sts) (v ∙ p) (swap_ends c log k st ∙ q)
          ∙ ap₂ (λ (x : Control) (y : Log). log_from G net h x y (map swap_step sts)) (swap_turn c log k st) (swap_note c log k st)
          ∙ rec (turn net c (first_call [] st)) (note G net c log st) (step_kept G laws net same h c log k st e.0 p q).0
          ∙ ap swap (sym (log_on G net h c log st sts p q))

  none_given : (n : ℕ) → map swapped (replicate n missing) ≡ replicate n missing
  none_given zero = refl
  none_given (suc n) = ap (λ y. missing ∷ y) (none_given n)

  swap_fresh : swap (fresh net) ≡ fresh net
  swap_fresh = ap (λ (x : List Given). record { given = x; heard = []; shared = 0; opened = false }) (none_given (inputs net))

  only_step : (b : Bool) (st : Step) (xs ys : List Step) → xs ≡ map swap_step ys → cond b (swap_step st ∷ xs) xs ≡ map swap_step (cond b (st ∷ ys) ys)
  only_step true st xs ys e = ap (λ z. swap_step st ∷ z) e
  only_step false st xs ys e = e

  swap_only : (p : ℕ) (s : List Item) → only p (map swap_item s) ≡ map swap_step (only p s)
  unfolding only
  swap_only p [] = refl
  swap_only p (i ∷ s) = only_step (eqb i.place p) i.step (only p (map swap_item s)) (only p s) (swap_only p s)

  pub swap_logs : (s : List Item) → Every (λ (i : Item). Private G i.step) s → logs G net h (map swap_item s) ≡ map swap (logs G net h s)
  unfolding logs Every
  swap_logs [] e = refl
  swap_logs (i ∷ s) e = go i.step (swap_logs s e.1)
    where
      go : (st : Step) → logs G net h (map swap_item s) ≡ map swap (logs G net h s)
          → logs G net h (record { place = i.place; step = swap_step st } ∷ map swap_item s) ≡ map swap (logs G net h (record { place = i.place; step = st } ∷ s))
      go dealt rest =
          ap₂ (λ (x : Log) (y : List Log). x ∷ y)
          (ap₂ (λ (x : Log) (y : List Step). log_from G net h (stocked net) x y) (sym swap_fresh) (swap_only i.place s)
          ∙ swap_log (only i.place s) (stocked net) (fresh net) (given_fresh G laws net same h) (every_only G i.place s e.1))
          rest
      go (rejected a b) rest = rest
      go (enters w a b) rest = rest
      go (common c) rest = rest

module _ (G : Group) (laws : Laws G) (net : Net) (valid : Valid net) (same : G.size ≡ net.size) (h : ℕ) (own : h < net.parties) where
  pub shifted_lawful : (ls : List Log) (ds : List Deal) → Every (Sane G net h) ls → Every (Lawful G net) ds → Every (Lawful G net) (shifted_by G net h ls ds)
  unfolding shifted_by Every
  shifted_lawful [] ds s e = e
  shifted_lawful (l ∷ ls) [] s e = tt
  shifted_lawful (l ∷ ls) (d ∷ ds) s e = (sh.lawful G laws net valid same h l s.0 d e.0 own, shifted_lawful ls ds s.1 e.1)

  same_all : (ds : List Deal) → AllSame net h ds ds
  unfolding AllSame
  same_all [] = tt
  same_all (d ∷ ds) = ((λ p n. refl), same_all ds)

  same_part : (l : Log) → Sane G net h l → (d : Deal) → Lawful G net d → SameToOthers net h (shift G net h l d) d
  unfolding part
  same_part l s d ok p n =
      ap₂ (λ (x y : List ℕ). x ++ y)
      (own_same p net.owners (shift G net h l d).inputs d.inputs (sh.lawful G laws net valid same h l s d ok own).inputs_length ok.inputs_length
      (λ i m o. sh.others_inputs G laws net valid same h l s d ok i m (λ q. n (sym o ∙ q))))
      (sh.others_blocks G laws net valid same h l s d ok p n)

  pub shifted_same : (ls : List Log) (ds : List Deal) → Every (Sane G net h) ls → Every (Lawful G net) ds → AllSame net h (shifted_by G net h ls ds) ds
  unfolding shifted_by Every AllSame
  shifted_same [] ds s e = same_all ds
  shifted_same (l ∷ ls) [] s e = tt
  shifted_same (l ∷ ls) (d ∷ ds) s e = (same_part l s.0 d e.0, shifted_same ls ds s.1 e.1)

  pub shifted_back : (ls : List Log) (ds : List Deal) → Every (Sane G net h) ls → Every (Lawful G net) ds → shifted_by G net h (map swap ls) (shifted_by G net h ls ds) ≡ ds
  unfolding shifted_by Every
  shifted_back [] ds s e = refl
  shifted_back (l ∷ ls) [] s e = refl
  shifted_back (l ∷ ls) (d ∷ ds) s e = ap₂ (λ (x : Deal) (y : List Deal). x ∷ y) (bk.back G laws net valid same h own l s.0 d e.0) (shifted_back ls ds s.1 e.1)

  pub shifted_agree : (ls : List Log) (ds : List Deal) → Every (Sane G net h) ls → Every (Lawful G net) ds → AgreeBy G net h ls ds → AgreeBy G net h (map swap ls) (shifted_by G net h ls ds)
  unfolding shifted_by Every AgreeBy
  shifted_agree [] ds s e a = tt
  shifted_agree (l ∷ ls) [] s e a = tt
  shifted_agree (l ∷ ls) (d ∷ ds) s e a = (
    (λ o k m.
        let w = at net.outputs k in
        bk.first_back G laws net valid same h own l s.0 d e.0 w (valid.named.1 k m) ∙ sym (a.0 o k m)
        ∙ sym (bk.second_back G laws net valid same h own l s.0 d e.0 w (valid.named.1 k m))),
    shifted_agree ls ds s.1 e.1 a.1,
  )

swap_twice_step : (st : Step) → swap_step (swap_step st) ≡ st
swap_twice_step dealt = refl
swap_twice_step (rejected a b) = refl
swap_twice_step (enters w a b) = refl
swap_twice_step (common c) = refl

pub swap_twice : (s : List Item) → map swap_item (map swap_item s) ≡ s
swap_twice [] = refl
swap_twice (i ∷ s) =
    ap₂ (λ (x : Step) (y : List Item). record { place = i.place; step = x } ∷ y) (swap_twice_step i.step) (swap_twice s)

swap_private_step : (G : Group) (st : Step) → Private G st → Private G (swap_step st)
swap_private_step G dealt p = p
swap_private_step G (rejected a b) p = p
swap_private_step G (enters w a b) (inl e) = inl (sym e)
swap_private_step G (enters w a b) (inr p) = inr (p.1, p.0)
swap_private_step G (common c) p = p

pub swap_private : (G : Group) (s : List Item) → Every (λ (i : Item). Private G i.step) s → Every (λ (i : Item). Private G i.step) (map swap_item s)
unfolding Every
swap_private G [] e = tt
swap_private G (i ∷ s) e = (swap_private_step G i.step e.0, swap_private G s e.1)

pub length_shifted : (G : Group) (net : Net) (h : ℕ) (ls : List Log) (ds : List Deal) → length (shifted_by G net h ls ds) ≡ length ds
unfolding shifted_by
length_shifted G net h [] ds = refl
length_shifted G net h (l ∷ ls) [] = refl
length_shifted G net h (l ∷ ls) (d ∷ ds) = ap suc (length_shifted G net h ls ds)

pub exchanged : (net : Net) (h : ℕ) (s : List Item) (es : List Deal) → firsts net h (map swap_item s) es ≡ seconds net h s es
unfolding firsts seconds
exchanged net h [] es = refl
exchanged net h (i ∷ s) es =
    ap₂ (λ (c : Call) (rest : List At). to i.place c ∷ rest) (swap_first (top_part net h es) i.step)
    (ap (firsts net h (map swap_item s)) (swap_left i.step es) ∙ exchanged net h s (left i.step es))
