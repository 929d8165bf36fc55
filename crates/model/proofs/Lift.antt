-- A call on the shelf is a call on one place: it writes that one and leaves the others.
use Rattle.std.proofs.Common.{◌≡◌, ℕ, zero, suc, ◌+◌, ◌*◌, ◌<◌, ◌≤◌, Bool, true, false, cond, eqb, ◌⊎◌, List, [], ◌∷◌, ◌++◌, length, take, drop, sym, refl, ap, ◌∙◌, inl, inr, mul-le-mul_right, suc-mul, arith}
use borrow.Rule.Slice.PartMut.{put_mid}
use Rattle.std.proofs.lemmas.List.{length-set, length-take-le, length-drop, length-append, length-replicate, take-append-drop, take_at, drop_at, drop-take, get_or-set_same, get_or-set_other, set-get_or}
use Rattle.std.proofs.lemmas.Slice.{take-put_mid_below, drop-put_mid}
use Rattle.std.proofs.lemmas.Bool.{cases_lt, cases_Bool, lt-ltb, le-leb, eqb-true}
use Rattle.groups.specs.Group.{Group}
use Rattle.model.specs.Net.{Net, wires}
use Rattle.model.specs.Deal.{part_length}
use Rattle.model.specs.Host.{Call, stock, enter, takes, walk, hear, opens, close, drops, Reply, Control, Place, Test, or, failing, fits, ask, own, pass, turn, part_after, wires_after, lent, verdict, accept, refuse, act}
use Rattle.groups.specs.Tested.{are_codes}
use Rattle.model.specs.Shelf as shelf
use Rattle.model.specs.Place.{place_of, Proper, Lifted}

-- the part of a list that was written, and one that was not
room_same : (s n : ℕ) (xs r : List ℕ) → s + n ≤ length xs → length r ≡ n → take n (drop s (put_mid s n xs r)) ≡ r
room_same s n xs r l e = ap (take n) (drop_at (take s xs) _ s (length-take-le s xs (omega arith))) ∙ take_at r _ n e

room_below : (s n t : ℕ) (xs r : List ℕ) → s + n ≤ length xs → t + n ≤ s → take n (drop t (put_mid s n xs r)) ≡ take n (drop t xs)
room_below s n t xs r l m =
    sym (drop-take t n (put_mid s n xs r)) ∙ ap (drop t) (take-put_mid_below s n xs r (t + n) m (omega arith)) ∙ drop-take t n xs

room_above : (s n t : ℕ) (xs r : List ℕ) → s + n ≤ length xs → length r ≡ n → s + n ≤ t → take n (drop t (put_mid s n xs r)) ≡ take n (drop t xs)
room_above s n t xs r l e m = ap (take n) (drop-put_mid s n xs r t m (omega arith) e)

length_room : (s n : ℕ) (xs r : List ℕ) → s + n ≤ length xs → length r ≡ n → length (put_mid s n xs r) ≡ length xs
length_room s n xs r l e =
    length-append (take s xs) _ ∙ simp (length-append, length-drop) (omega (arith, length-take-le s xs (omega arith)))

apart : (o p n : ℕ) → o < p → o * n + n ≤ p * n
apart o p n l = let a : suc o * n ≤ p * n = mul-le-mul_right n l in let b = suc-mul o n in omega arith

room_other : (p o n : ℕ) (xs r : List ℕ) → p * n + n ≤ length xs → length r ≡ n → (o ≡ p → ⊥) → take n (drop (o * n) (put_mid (p * n) n xs r)) ≡ take n (drop (o * n) xs)
room_other p o n xs r l e ne = go (cases_lt o p)
  where
    go : (o < p) ⊎ (p ≤ o) → take n (drop (o * n) (put_mid (p * n) n xs r)) ≡ take n (drop (o * n) xs)
    go (inl m) = room_below (p * n) n (o * n) xs r l (apart o p n m)
    go (inr m) = room_above (p * n) n (o * n) xs r l e (apart p o n (omega arith))

length_pass : (G : Group) (N : Net) (n g : ℕ) (ws : List ℕ) → length (pass G N n g ws) ≡ length ws
unfolding pass
length_pass G N zero g ws = refl
length_pass G N (suc n) g ws = length_pass G N n (suc g) _ ∙ length-set ws _ _

-- what a call leaves is as long as what was there
wires_long : (G : Group) (N : Net) (h : ℕ) (P : Place) (call : Call) → length P.wires ≡ wires N → length (wires_after G N h P call) ≡ wires N
wires_long G N h P (stock part) e = length-replicate (wires N) 0
wires_long G N h P (enter w v) e = length-set P.wires _ _ ∙ e
wires_long G N h P (walk b) e = length_pass G N _ _ P.wires ∙ e
wires_long G N h P (takes w m) e = length-set P.wires _ _ ∙ e
wires_long G N h P (opens buf) e = e
wires_long G N h P (close cs buf) e = length-replicate (wires N) 0
wires_long G N h P drops e = length-replicate (wires N) 0
wires_long G N h P (hear cs) e = length-set P.wires _ _ ∙ e

part_long : (N : Net) (h : ℕ) (P : Place) (call : Call) → verdict N h P call ≡ 0 → length P.part ≡ part_length N h → length (part_after N h P call) ≡ part_length N h
part_long N h P (stock part) v e = eqb-true _ _ (go (fits (ask (stock part)) P.control.phase) (eqb (length part) (part_length N h)) (are_codes N.size part) v)
  where
    go : (a b c : Bool) → failing (or 12 a ∷ or 15 b ∷ or 16 c ∷ or 17 true ∷ []) ≡ 0 → b ≡ true
    go true true c v = refl
    go true false c v = absurd (omega arith)
    go false b c v = absurd (omega arith)
part_long N h P (enter w v) z e = e
part_long N h P (walk b) z e = e
part_long N h P (hear cs) z e = e
part_long N h P (takes w m) z e = e
part_long N h P (opens buf) z e = e
part_long N h P (close cs buf) z e = length-replicate (part_length N h) 0
part_long N h P drops z e = length-replicate (part_length N h) 0

module _ (G : Group) (N : Net) (d : shelf.Desk) (xs : List ℕ) (p : ℕ) (call : Call) (K : Proper G N d xs p call) where
  abbrev h : ℕ
  h = d.party

  abbrev n : ℕ
  n = shelf.room_length N h

  abbrev P : Place
  P = place_of N d xs p

  fits_in : p * n + n ≤ length xs
  fits_in = let a = apart p (length d.places) n K.there in omega (arith, K.long)

  room_long : length (shelf.room_at N h xs p) ≡ n
  room_long = length-take-le n (drop (p * n) xs) (let e = length-drop (p * n) xs in let f = fits_in in omega arith)

  part_is : length P.part ≡ part_length N h
  part_is = length-take-le (part_length N h) (shelf.room_at N h xs p) (let e = room_long in omega arith)

  wires_is : length P.wires ≡ wires N
  wires_is = length-drop (part_length N h) (shelf.room_at N h xs p) ∙ (let e = room_long in omega arith)

  same_bytes : shelf.room_at N h xs p ≡ P.part ++ P.wires
  same_bytes = sym (take-append-drop (part_length N h) (shelf.room_at N h xs p))

  pass_frame : (a b c e : Bool) (more : List Test) → a ≡ true → b ≡ true → c ≡ true → e ≡ true → failing (or 9 a ∷ or 9 b ∷ or 10 c ∷ or 11 e ∷ more) ≡ failing more
  pass_frame a b c e more w x y z = simp (w, x, y, z)

  pub same_verdict : shelf.shelf_verdict G.size N d xs p call ≡ verdict N h P call
  same_verdict =
      pass_frame _ _ _ _ (or 12 (fits (ask call) P.control.phase) ∷ own N h P.control (shelf.room_at N h xs p) call) K.counts K.look (le-leb _ _ K.long) (lt-ltb _ _ K.there)
      ∙ ap (λ b. failing (or 12 (fits (ask call) P.control.phase) ∷ own N h P.control b call)) same_bytes

  abbrev S : shelf.Served
  S = shelf.serve G N d xs p call

  abbrev R : Reply
  R = act G N h P call

  abbrev W : shelf.Served
  W = shelf.accepted G N d xs p call (shelf.control_at d p)

  -- refused
  no : eqb (verdict N h P call) 0 ≡ false → (S ≡ shelf.refusing d xs (lent call) (verdict N h P call)) × (R ≡ refuse P call (verdict N h P call))
  no e = (
    ap (λ v. cond (eqb v 0) W (shelf.refusing d xs (lent call) v)) same_verdict ∙ ap (λ b. cond b W (shelf.refusing d xs (lent call) (verdict N h P call))) e,
    ap (λ b. cond b (accept G N h P call) (refuse P call (verdict N h P call))) e,
  )

  -- accepted
  yes' : eqb (verdict N h P call) 0 ≡ true → (S ≡ W) × (R ≡ accept G N h P call)
  yes' e = (
    ap (λ v. cond (eqb v 0) W (shelf.refusing d xs (lent call) v)) same_verdict ∙ ap (λ b. cond b W (shelf.refusing d xs (lent call) (verdict N h P call))) e,
    ap (λ b. cond b (accept G N h P call) (refuse P call (verdict N h P call))) e,
  )

  place : Control → List ℕ → Place
  place c room = record { control = c; part = take (part_length N h) room; wires = drop (part_length N h) room }

  refused_lifts : eqb (verdict N h P call) 0 ≡ false → Lifted G N d xs p call
  refused_lifts e =
      let s = (no e).0 in
      let r = (no e).1 in
      record {
        answer = ap (λ (s : shelf.Served). s.answer) s ∙ sym (ap (λ (r : Reply). r.answer) r);
        buffer = ap (λ (s : shelf.Served). s.buffer) s ∙ sym (ap (λ (r : Reply). r.buffer) r);
        here = ap (λ (s : shelf.Served). place_of N s.desk s.shelf p) s ∙ sym (ap (λ (r : Reply). r.place) r);
        others = λ o _ _. ap (λ (s : shelf.Served). place_of N s.desk s.shelf o) s;
        desk =
            ap (λ (s : shelf.Served). s.desk) s
            ∙ ap (λ l. record { party = d.party; parties = d.parties; inputs = d.inputs; gates = d.gates; looks = d.looks; outputs = d.outputs; own = d.own; places = l }) (sym (set-get_or d.places p shelf.nowhere))
            ∙ sym (ap (λ (r : Reply). shelf.seated d p r.place.control) r);
        past = ap (λ (s : shelf.Served). drop (length d.places * n) s.shelf) s;
        length_kept = ap (λ (s : shelf.Served). length s.shelf) s;
      }

  accepted_lifts : eqb (verdict N h P call) 0 ≡ true → Lifted G N d xs p call
  accepted_lifts e =
      let s = (yes' e).0 in
      let r = (yes' e).1 in
      let pa = part_after N h P call in
      let wa = wires_after G N h P call in
      let c = turn N P.control call in
      let lp : length pa ≡ part_length N h = part_long N h P call (eqb-true _ 0 e) part_is in
      let lw : length wa ≡ wires N = wires_long G N h P call wires_is in
      let lr : length (pa ++ wa) ≡ n = let a = length-append pa wa in omega arith in
      let room = room_same (p * n) n xs (pa ++ wa) fits_in lr in
      let part = ap (take (part_length N h)) room ∙ take_at pa wa (part_length N h) lp in
      let wire = ap (drop (part_length N h)) room ∙ drop_at pa wa (part_length N h) lp in
      let ctl = get_or-set_same d.places p c shelf.nowhere K.there in
      record {
        answer = ap (λ (s : shelf.Served). s.answer) s ∙ sym (ap (λ (r : Reply). r.answer) r);
        buffer = ap (λ (s : shelf.Served). s.buffer) s ∙ sym (ap (λ (r : Reply). r.buffer) r);
        here =
            ap (λ (s : shelf.Served). place_of N s.desk s.shelf p) s
            ∙ ap (λ k. record { control = k; part = take (part_length N h) (take n (drop (p * n) W.shelf)); wires = drop (part_length N h) (take n (drop (p * n) W.shelf)) }) ctl
            ∙ ap (λ l. record { control = c; part = l; wires = drop (part_length N h) (take n (drop (p * n) W.shelf)) }) part
            ∙ ap (λ l. record { control = c; part = pa; wires = l }) wire
            ∙ sym (ap (λ (r : Reply). r.place) r);
        others = λ o _ ne.
            ap (λ (s : shelf.Served). place_of N s.desk s.shelf o) s
            ∙ ap (λ k. record { control = k; part = take (part_length N h) (take n (drop (o * n) W.shelf)); wires = drop (part_length N h) (take n (drop (o * n) W.shelf)) }) (get_or-set_other d.places p o c shelf.nowhere ne)
            ∙ ap (λ l. record { control = shelf.control_at d o; part = take (part_length N h) l; wires = drop (part_length N h) l }) (room_other p o n xs (pa ++ wa) fits_in lr ne);
        desk = ap (λ (s : shelf.Served). s.desk) s ∙ sym (ap (λ (r : Reply). shelf.seated d p r.place.control) r);
        length_kept = ap (λ (s : shelf.Served). length s.shelf) s ∙ length_room (p * n) n xs (pa ++ wa) fits_in lr;
        past =
            ap (λ (s : shelf.Served). drop (length d.places * n) s.shelf) s
            ∙ drop-put_mid (p * n) n xs (pa ++ wa) (length d.places * n) (apart p (length d.places) n K.there) (let f = fits_in in omega arith) lr;
      }

pub lift : (G : Group) (N : Net) (d : shelf.Desk) (xs : List ℕ) (p : ℕ) (call : Call) → Proper G N d xs p call → Lifted G N d xs p call
lift G N d xs p call K = go (cases_Bool (eqb (verdict N d.party (place_of N d xs p) call) 0))
  where
    go : (eqb (verdict N d.party (place_of N d xs p) call) 0 ≡ true) ⊎ (eqb (verdict N d.party (place_of N d xs p) call) 0 ≡ false) → Lifted G N d xs p call
    go (inl e) = accepted_lifts G N d xs p call K e
    go (inr e) = refused_lifts G N d xs p call K e
