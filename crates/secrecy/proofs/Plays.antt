-- A list of calls to one place.
use Rattle.std.proofs.Common.{◌≡◌, ℕ, ◌+◌, ◌*◌, ◌<◌, ◌≤◌, Bool, true, false, cond, ◌&&◌, eqb, ltb, List, [], ◌∷◌, map, length, get_or, set, sym, refl, ap, ◌∙◌, subst, ap₂, arith}
use Rattle.std.proofs.lemmas.List.{length-set}
use Rattle.std.proofs.lemmas.Bool.{lt-ltb, and_from}
use Rattle.groups.specs.Group.{Group}
use Rattle.model.specs.Net.{Net, gate_at, is_look}
use Rattle.model.specs.Host.{Phase, empty, gathering, walking, waiting, ended, opened, Call, stock, enter, takes, walk, hear, opens, close, drops, Control, Place, Answer, Reply, lacking, ask, is, steps, Stop, the_end, a_look, on_the_way, stop_at, filling, walk_to, turn, verdict, accept, refuse, act}
use Rattle.model.specs.Shelf.{Desk, nowhere, room_length, same_counts, serve}
use Rattle.model.specs.Place.{place_of, Proper}
use Rattle.model.proofs.Lift.{lift}
use Rattle.secrecy.specs.Script.{to, Seen, runs}
use Rattle.secrecy.proofs.Control.{at_look_lem}
use Rattle.secrecy.proofs.Whole.{desk_of, looks_ok}

abbrev pub seen_of : Reply → Seen
seen_of r = record { answer = r.answer; buffer = r.buffer }

-- what a list of calls to one place lets see
unfoldable pub play : Group → Net → ℕ → Place → List Call → List Seen
play G net h P [] = []
play G net h P (x ∷ xs) = seen_of (act G net h P x) ∷ play G net h (act G net h P x).place xs

-- a place that waits is at a LOOK
abbrev Waits : Net → Control → Type 0
Waits net c = c.phase ≡ waiting → (ltb c.gate (length net.gates) && is_look (gate_at net c.gate)) ≡ true

module _ (net : Net) where
  not_waiting : (c : Control) (p : Phase) → c.phase ≡ p → is waiting p ≡ false → Waits net c
  not_waiting c p e f w =
      let z : is waiting p ≡ true = ap (is waiting) (sym e ∙ w) in
      let o : ◌≡◌ {A = ℕ} 0 1 = cc in
      absurd (omega arith)

  filled : (c : Control) (w : ℕ) → Waits net (filling c w)
  filled c w = go (eqb (lacking (set c.given w true)) 0) refl
    where
      go : (b : Bool) → eqb (lacking (set c.given w true)) 0 ≡ b → Waits net (filling c w)
      go true e = not_waiting (filling c w) walking (ap (λ b. cond b walking gathering) e) refl
      go false e = not_waiting (filling c w) gathering (ap (λ b. cond b walking gathering) e) refl

  walked : (c : Control) (g : ℕ) (s : Stop) → stop_at net g ≡ s → Waits net (walk_to c g s)
  walked c g the_end e = not_waiting (walk_to c g the_end) ended refl refl
  walked c g (a_look f) e = λ _. let (l, (t, q)) = at_look_lem net g f e in and_from _ _ (lt-ltb g (length net.gates) l) (ap is_look q)
  walked c g on_the_way e = not_waiting (walk_to c g on_the_way) walking refl refl

  turned : (c : Control) (x : Call) → Waits net (turn net c x)
  turned c (stock b) = not_waiting (turn net c (stock b)) gathering refl refl
  turned c (enter w v) = filled c w
  turned c (takes w m) = filled c w
  turned c (walk b) = let g = c.gate + steps net c.gate b in walked c g (stop_at net g) refl
  turned c (hear cs) = not_waiting (turn net c (hear cs)) walking refl refl
  turned c (opens buf) = not_waiting (turn net c (opens buf)) opened refl refl
  turned c (close cs buf) = not_waiting (turn net c (close cs buf)) empty refl refl
  turned c drops = not_waiting (turn net c drops) empty refl refl

  acted : (G : Group) (h : ℕ) (P : Place) (x : Call) → Waits net P.control → Waits net (act G net h P x).place.control
  acted G h P x w = go (eqb (verdict net h P x) 0)
    where
      go : (b : Bool) → Waits net (cond b (accept G net h P x) (refuse P x (verdict net h P x))).place.control
      go true = turned P.control x
      go false = w

-- on the shelf the same is seen
module _ (G : Group) (net : Net) (base : Desk) (counts : same_counts G.size net base ≡ true) (p : ℕ) where
  pub plays : (calls : List Call) (cs : List Control) (xs : List ℕ) → p < length cs → length cs * room_length net base.party ≤ length xs → Waits net (get_or cs p nowhere)
      → runs G net (desk_of base cs) xs (map (to p) calls) ≡ play G net base.party (place_of net (desk_of base cs) xs p) calls
  unfolding runs play
  plays [] cs xs there room waits = refl
  plays (x ∷ calls) cs xs there room waits =
      let h = base.party in
      let D = desk_of base cs in
      let P = place_of net D xs p in
      let T = serve G net D xs p x in
      let proper : Proper G net D xs p x
      = record { counts = counts; look = looks_ok net (get_or cs p nowhere) (ltb p (length cs)) (ask x) (lt-ltb p (length cs) there) waits; long = room; there = there } in
      let L = lift G net D xs p x proper in
      let c = (act G net h P x).place.control in
      let e : place_of net (desk_of base (set cs p c)) T.shelf p ≡ (act G net h P x).place
      = ap (λ (d : Desk). place_of net d T.shelf p) (sym L.desk) ∙ L.here in
      let k : get_or (set cs p c) p nowhere ≡ c = ap (λ (z : Place). z.control) e in
      ap₂ (λ (u : Seen) (v : List Seen). u ∷ v) (ap₂ (λ (a : Answer) (b : List ℕ). record { answer = a; buffer = b }) L.answer L.buffer)
      (ap (λ (d : Desk). runs G net d T.shelf (map (to p) calls)) L.desk
      ∙ plays calls (set cs p c) T.shelf (rw (length-set cs p c) there) (rw (length-set cs p c, L.length_kept) room)
      (subst (λ (z : Control). Waits net z) (sym k) (acted net G h P x waits))
      ∙ ap (λ (z : Place). play G net h z calls) e)
