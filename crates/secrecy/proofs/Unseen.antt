-- What a host lets see says nothing of the values entered at it.
use Rattle.std.proofs.Common.{◌≡◌, ℕ, suc, ◌*◌, ◌<◌, ◌≤◌, true, false, cond, ◌&&◌, eqb, ltb, leb, ◌⊎◌, List, [], ◌∷◌, map, length, get_or, replicate, sym, refl, ap, ◌∙◌, subst, ap₂, inl, inr, arith}
use lib.Dec.{eqb-suc-zero}
use Rattle.std.proofs.lemmas.List.{length-replicate, get_or-replicate, length-map}
use Rattle.std.proofs.lemmas.Bool.{cases_Bool, and_left, and_right, and_parts, eqb-true, leb-true}
use Rattle.groups.specs.Group.{Group, Laws}
use Rattle.model.specs.Net.{Net, Valid}
use Rattle.model.specs.Deal.{Deal, Lawful}
use Rattle.model.specs.Host.{Call, stock, Control, refused, blank, Test, or, failing, Ask, STOCK, ask, fits, own, lent}
use Rattle.model.specs.Shelf.{Desk, installed, nowhere, control_at, room_at, room_length, same_counts, at_look, frame, Served, accepted, refusing, serve}
use Rattle.secrecy.specs.Evaluation.{Log, swap}
use Rattle.secrecy.specs.Script.{Step, dealt, rejected, enters, common, Item, first_call, second_call, top_part, left, firsts, seconds, swap_step, swap_item, Seen, seen, runs, logs, shifted_by, shifted, Every, Goes, GoesAll, ReadAll, Scripted, AgreeBy, Agree, AllSame}
use Rattle.secrecy.specs.Secrecy.{Hidden}
use Rattle.secrecy.proofs.Busy.{idles}
use Rattle.secrecy.proofs.Whole.{item, stop, stop_number, same_ask, same_lent, Rels, all}
use Rattle.secrecy.proofs.Family.{logs_sane, swap_logs, shifted_lawful, shifted_same, shifted_back, shifted_agree, swap_private, length_shifted, exchanged}

-- a desk and a shelf that refuse every call, whatever it says
abbrev Shut : Group → Net → Desk → List ℕ → Type 0
Shut G net d xs = (p : ℕ) (a : Ask) → (n : ℕ) × (n ≤ 10) × ((more : List Test) → failing (frame G.size net d (length xs) p a more) ≡ suc n)

shut_counts : (G : Group) (net : Net) (d : Desk) (xs : List ℕ) → same_counts G.size net d ≡ false → Shut G net d xs
shut_counts G net d xs e p a =
    let A = same_counts G.size net d in
    let C = leb (length d.places * room_length net d.party) (length xs) in
    let E = ltb p (length d.places) in
    (cond A (cond (at_look net d p a) (cond C 10 9) 8) 8, stop_number A (at_look net d p a) C, λ more. stop A (at_look net d p a) C E (or 12 (fits a (control_at d p).phase) ∷ more) (and_left A (C && E) e))

shut_short : (G : Group) (net : Net) (d : Desk) (xs : List ℕ) → leb (length d.places * room_length net d.party) (length xs) ≡ false → Shut G net d xs
shut_short G net d xs e p a =
    let A = same_counts G.size net d in
    let C = leb (length d.places * room_length net d.party) (length xs) in
    let E = ltb p (length d.places) in (
      cond A (cond (at_look net d p a) (cond C 10 9) 8) 8,
      stop_number A (at_look net d p a) C,
      λ more. stop A (at_look net d p a) C E (or 12 (fits a (control_at d p).phase) ∷ more) (and_right A (C && E) (and_left C E e)),
    )

module _ (G : Group) (net : Net) (h : ℕ) (d : Desk) (xs : List ℕ) (shut : Shut G net d xs) where
  shut_serve : (p : ℕ) (x : Call) → serve G net d xs p x ≡ refusing d xs (lent x) (suc (shut p (ask x)).0)
  shut_serve p x =
      let n = (shut p (ask x)).0 in
      ap (λ v. cond (eqb v 0) (accepted G net d xs p x (control_at d p)) (refusing d xs (lent x) v)) ((shut p (ask x)).2 (own net d.party (control_at d p) (room_at net d.party xs p) x))
      ∙ ap (λ b. cond b (accepted G net d xs p x (control_at d p)) (refusing d xs (lent x) (suc n))) (eqb-suc-zero n)

  record Closed (s : List Item) (ds : List Deal) : Type 0 where
    answers : (es : List Deal) → runs G net d xs (firsts net h s ds) ≡ runs G net d xs (seconds net h s es)
    none : logs G net h s ≡ []
    none_swapped : logs G net h (map swap_item s) ≡ []
    goes : (es : List Deal) → GoesAll G net h d xs (map swap_item s) es
    read : ReadAll G net h d xs s ds

  shut_goes : (p : ℕ) (st : Step) (bytes : List ℕ) → Goes G.size net d xs p bytes st → (other : List ℕ) → Goes G.size net d xs p other (swap_step st)
  shut_goes p dealt bytes g other =
      let e = (shut p STOCK).2 (own net d.party (control_at d p) [] (stock bytes)) in
      let z : ◌≡◌ {A = ℕ} 0 (suc (shut p STOCK).0) = sym g ∙ e in
      absurd (omega arith)
  shut_goes p (rejected a b) bytes g other = ((λ z. g.0 (sym g.1 ∙ z)), sym g.1)
  shut_goes p (enters w a b) bytes g other = tt
  shut_goes p (common c) bytes g other = tt

  shut_none : (p : ℕ) (st : Step) (s : List Item) (bytes : List ℕ) → Goes G.size net d xs p bytes st → logs G net h s ≡ [] → logs G net h (item p st ∷ s) ≡ []
  unfolding logs
  shut_none p dealt s bytes g e =
      let q = (shut p STOCK).2 (own net d.party (control_at d p) [] (stock bytes)) in
      let z : ◌≡◌ {A = ℕ} 0 (suc (shut p STOCK).0) = sym g ∙ q in
      absurd (omega arith)
  shut_none p (rejected a b) s bytes g e = e
  shut_none p (enters w a b) s bytes g e = e
  shut_none p (common c) s bytes g e = e

  closed_all : (s : List Item) (ds : List Deal) → GoesAll G net h d xs s ds → Closed s ds
  unfolding runs firsts seconds GoesAll ReadAll logs
  closed_all [] ds goes = record { answers = λ es. refl; none = refl; none_swapped = refl; goes = λ es. tt; read = tt }
  closed_all (i ∷ s) ds goes =
      let p = i.place in
      let st = i.step in
      let x = first_call (top_part net h ds) st in
      let tx = shut_serve p x in
      let rest = closed_all s (left st ds) (subst (λ (t : Served). GoesAll G net h t.desk t.shelf s (left st ds)) tx goes.1) in
      record {
        answers = λ es.
            let y = second_call (top_part net h es) st in
            let ty = shut_serve p y in
            let same_number : suc (shut p (ask x)).0 ≡ suc (shut p (ask y)).0 = ap (λ a. suc (shut p a).0) (sym (same_ask (top_part net h ds) (top_part net h es) st)) in
            ap₂ (λ (u : Seen) (v : List Seen). u ∷ v)
            (ap seen tx ∙ ap₂ (λ n b. record { answer = refused n; buffer = b }) same_number (sym (same_lent (top_part net h ds) (top_part net h es) st)) ∙ sym (ap seen ty))
            (ap (λ (t : Served). runs G net t.desk t.shelf (firsts net h s (left st ds))) tx ∙ rest.answers (left st es)
            ∙ sym (ap (λ (t : Served). runs G net t.desk t.shelf (seconds net h s (left st es))) ty));
        read = (
          (λ q.
              let z = (shut p (ask x)).1 in
              let w : suc (shut p (ask x)).0 ≡ 17 = sym ((shut p (ask x)).2 (own net d.party (control_at d p) (room_at net d.party xs p) x)) ∙ q in
              omega arith),
          subst (λ (t : Served). ReadAll G net h t.desk t.shelf s (left st ds)) (sym tx) rest.read,
        );
        none = shut_none p st s (top_part net h ds) goes.0 rest.none;
        none_swapped = shut_none p (swap_step st) (map swap_item s) [] (shut_goes p st (top_part net h ds) goes.0 []) rest.none_swapped;
        goes = λ es. (
          shut_goes p st (top_part net h ds) goes.0 (top_part net h es),
          subst (λ (t : Served). GoesAll G net h t.desk t.shelf (map swap_item s) (left (swap_step st) es)) (sym (shut_serve p (first_call (top_part net h es) (swap_step st)))) (rest.goes (left (swap_step st) es)),
        );
      }

  same_none : (ds : List Deal) → length ds ≡ 0 → AllSame net h ds ds
  unfolding AllSame
  same_none [] e = tt
  same_none (e ∷ es) q = absurd (omega arith)

  shut_hidden : (s : List Item) (ds : List Deal) → Scripted G net h d xs s ds → Hidden G net h d xs s ds
  unfolding shifted_by AgreeBy
  shut_hidden s ds sc =
      let c = closed_all s ds sc.goes in
      let zero_deals : length ds ≡ 0 = sc.exact ∙ ap length c.none in
      let stays : shifted G net h s ds ≡ ds = ap (λ (ls : List Log). shifted_by G net h ls ds) c.none in
      record {
        answers = λ _. c.answers (shifted G net h s ds);
        lawful = subst (λ (es : List Deal). Every (Lawful G net) es) (sym stays) sc.lawful;
        others = subst (λ (es : List Deal). AllSame net h es ds) (sym stays) (same_none ds zero_deals);
        undone = ap (λ (ls : List Log). shifted_by G net h ls (shifted G net h s ds)) c.none_swapped ∙ stays;
        exchanged =
            record {
              private = swap_private G s sc.private;
              goes = c.goes (shifted G net h s ds);
              lawful = subst (λ (es : List Deal). Every (Lawful G net) es) (sym stays) sc.lawful;
              exact = ap length stays ∙ zero_deals ∙ sym (ap length c.none_swapped);
            };
        read = c.read;
        agrees = λ _. subst (λ (ls : List Log). AgreeBy G net h ls (shifted G net h s ds)) (sym c.none_swapped) tt;
        histories = exchanged net h s;
      }

-- a desk and a shelf that serve
module _ (G : Group) (laws : Laws G) (net : Net) (valid : Valid net) (inst : Net) (h K : ℕ) (party : h < inst.parties) (xs : List ℕ) where
  abbrev D : Desk
  D = installed inst h K

  module _ (counts : same_counts G.size net (installed inst h K) ≡ true) (room : leb (length (replicate K (blank inst)) * room_length net h) (length xs) ≡ true) where
    same_parties : (eqb net.size G.size && eqb net.parties inst.parties) ≡ true
    same_parties =
        (and_parts _ _ (and_parts _ _ (and_parts _ _ (and_parts _ _ (and_parts _ _ counts).0).0).0).0).0

    same : G.size ≡ net.size
    same = sym (eqb-true net.size G.size (and_parts _ _ same_parties).0)

    own_party : h < net.parties
    own_party =
        let e : net.parties ≡ inst.parties = eqb-true net.parties inst.parties (and_parts (eqb net.size G.size) (eqb net.parties inst.parties) same_parties).1 in
        omega arith

    start : (A : Type 0) (s : List Item) → Rels G laws net valid same D own_party counts A s (replicate K (blank inst)) xs xs
    start A s =
        record {
          long = refl;
          room = leb-true _ _ room;
          each_place = λ p l.
              let k : p < K = rw (length-replicate K (blank inst)) at l in
              let e : get_or (replicate K (blank inst)) p nowhere ≡ blank inst = get_or-replicate K p (blank inst) nowhere k in
              idles (ap (λ (c : Control). c.phase) e) refl;
        }

    open_hidden : (s : List Item) (ds : List Deal) → Scripted G net h D xs s ds → Hidden G net h D xs s ds
    open_hidden s ds sc =
        let sane = logs_sane G laws net same h s sc.private in
        let ls = swap_logs G laws net same h s sc.private in
        let es = shifted G net h s ds in
        let lawful' = shifted_lawful G laws net valid same h own_party (logs G net h s) ds sane sc.lawful in
        let A = Agree G net h s ds in
        let both = all G laws net valid same D own_party counts A s ds (replicate K (blank inst)) xs xs sc.private sc.goes
        (record { lawful = sc.lawful; exact = sc.exact; agree = λ agree. agree }) (start A s) in
        record {
          answers = both.answers;
          lawful = lawful';
          others = shifted_same G laws net valid same h own_party (logs G net h s) ds sane sc.lawful;
          undone = ap (λ (ls : List Log). shifted_by G net h ls es) ls ∙ shifted_back G laws net valid same h own_party (logs G net h s) ds sane sc.lawful;
          exchanged =
              record {
                private = swap_private G s sc.private;
                goes = both.goes;
                lawful = lawful';
                exact = length_shifted G net h (logs G net h s) ds ∙ sc.exact ∙ sym (length-map (logs G net h s) swap) ∙ sym (ap length ls);
              };
          read = both.read;
          agrees = λ agree.
              subst (λ (x : List Log). AgreeBy G net h x es) (sym ls) (shifted_agree G laws net valid same h own_party (logs G net h s) ds sane sc.lawful agree);
          histories = exchanged net h s;
        }

  -- a script with deals is served, and then the sizes are the same
  pub sized_or_none : (s : List Item) (ds : List Deal) → Scripted G net h D xs s ds → (G.size ≡ net.size) ⊎ (length ds ≡ 0)
  sized_or_none s ds sc = go (cases_Bool (same_counts G.size net D)) (cases_Bool (leb (length (replicate K (blank inst)) * room_length net h) (length xs)))
    where
      go : (same_counts G.size net (installed inst h K) ≡ true) ⊎ (same_counts G.size net (installed inst h K) ≡ false)
          → (leb (length (replicate K (blank inst)) * room_length net h) (length xs) ≡ true) ⊎ (leb (length (replicate K (blank inst)) * room_length net h) (length xs) ≡ false)
          → (G.size ≡ net.size) ⊎ (length ds ≡ 0)
      go (inl a) (inl b) = inl (same a b)
      go (inl a) (inr b) = inr (sc.exact ∙ ap length (closed_all G net h D xs (shut_short G net D xs b) s ds sc.goes).none)
      go (inr a) b = inr (sc.exact ∙ ap length (closed_all G net h D xs (shut_counts G net D xs a) s ds sc.goes).none)

  -- either way
  pub hidden : (s : List Item) (ds : List Deal) → Scripted G net h D xs s ds → Hidden G net h D xs s ds
  hidden s ds sc = go (cases_Bool (same_counts G.size net D)) (cases_Bool (leb (length (replicate K (blank inst)) * room_length net h) (length xs)))
    where
      go : (same_counts G.size net (installed inst h K) ≡ true) ⊎ (same_counts G.size net (installed inst h K) ≡ false)
          → (leb (length (replicate K (blank inst)) * room_length net h) (length xs) ≡ true) ⊎ (leb (length (replicate K (blank inst)) * room_length net h) (length xs) ≡ false)
          → Hidden G net h (installed inst h K) xs s ds
      go (inl a) (inl b) = open_hidden a b s ds sc
      go (inl a) (inr b) = shut_hidden G net h D xs (shut_short G net D xs b) s ds sc
      go (inr a) b = shut_hidden G net h D xs (shut_counts G net D xs a) s ds sc
