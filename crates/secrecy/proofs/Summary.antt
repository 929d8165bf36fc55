-- The whole, from its parts.
use Rattle.std.proofs.Common.{◌≡◌, ℕ, suc, ◌<◌, Bool, true, false, cond, eqb, ◌⊎◌, List, [], ◌∷◌, ◌++◌, map, length, sym, refl, ap, ◌∙◌, subst, ap₂, inl, inr, arith}
use Rattle.std.proofs.lemmas.List.{length-map}
use Rattle.std.proofs.lemmas.Bool.{cases_Bool, eqb-true, eqb-false}
use Rattle.groups.specs.Group.{Group, Laws}
use Rattle.model.specs.Net.{Net, Valid}
use Rattle.model.specs.Deal.{Deal, Lawful, part}
use Rattle.model.specs.Host.{Call, stock, enter, takes, walk, hear, opens, close, drops}
use Rattle.model.specs.Tape.{Tape, deal_of, tape_of, OneToOne}
use Rattle.model.proofs.Tapes.{one_to_one}
use Rattle.model.specs.Shelf.{Desk, installed, shelf_verdict, serve}
use Rattle.secrecy.specs.Script.{Step, dealt, rejected, enters, common, Item, At, to, first_call, top_part, left, firsts, seconds, swap_item, runs, logs, shifted, Every, Private, Goes, GoesAll, Scripted, AllSame, Agree}
use Rattle.secrecy.specs.Secrecy.{Hidden, matched, Matched, bytes_of, stocks, Secrecy}
use Rattle.secrecy.proofs.Unseen.{hidden, sized_or_none}
use Rattle.secrecy.proofs.Family.{length_shifted}

-- TAPES

-- what of the lists of tapes and deals is used
record OnLists (G : Group) (net : Net) (ts : List (List ℕ)) (es : List Deal) : Type 0 where
  deals_of_tapes : map (deal_of G net) (map (tape_of net) es) ≡ es
  tapes_of_deals : map (tape_of net) (map (deal_of G net) ts) ≡ ts
  all_tapes : Every (Tape G net) (map (tape_of net) es)

deals_of : (G : Group) (net : Net) → OneToOne G net → (es : List Deal) → Every (Lawful G net) es → map (deal_of G net) (map (tape_of net) es) ≡ es
unfolding Every
deals_of G net one [] ok = refl
deals_of G net one (e ∷ es) ok = ap₂ (λ (x : Deal) (y : List Deal). x ∷ y) (one.back e ok.0) (deals_of G net one es ok.1)

tapes_of : (G : Group) (net : Net) → OneToOne G net → (ts : List (List ℕ)) → Every (Tape G net) ts → map (tape_of net) (map (deal_of G net) ts) ≡ ts
unfolding Every
tapes_of G net one [] ok = refl
tapes_of G net one (t ∷ ts) ok = ap₂ (λ (x : List ℕ) (y : List (List ℕ)). x ∷ y) (one.there t ok.0) (tapes_of G net one ts ok.1)

are_tapes : (G : Group) (net : Net) → OneToOne G net → (es : List Deal) → Every (Lawful G net) es → Every (Tape G net) (map (tape_of net) es)
unfolding Every
are_tapes G net one [] ok = tt
are_tapes G net one (e ∷ es) ok = (one.tapes e ok.0, are_tapes G net one es ok.1)

on_none : (G : Group) (net : Net) (ts : List (List ℕ)) (es : List Deal) → length ts ≡ 0 → length es ≡ 0 → OnLists G net ts es
unfolding Every
on_none G net [] [] p q = record { deals_of_tapes = refl; tapes_of_deals = refl; all_tapes = tt }
on_none G net [] (e ∷ es) p q = absurd (omega arith)
on_none G net (t ∷ ts) es p q = absurd (omega arith)

module _ (G : Group) (laws : Laws G) (net : Net) (valid : Valid net) (inst : Net) (h K : ℕ) (party : h < inst.parties) (shelf : List ℕ) (s : List Item) (ts : List (List ℕ))
    (tapes : Every (Tape G net) ts) (sc : Scripted G net h (installed inst h K) shelf s (map (deal_of G net) ts)) where
  abbrev ds : List Deal
  ds = map (deal_of G net) ts

  hid : Hidden G net h (installed inst h K) shelf s ds
  hid = hidden G laws net valid inst h K party shelf s ds sc

  on : (G.size ≡ net.size) ⊎ (length ds ≡ 0) → OnLists G net ts (shifted G net h s ds)
  on (inl same) =
      let one = one_to_one G laws net valid same in
      record {
        deals_of_tapes = deals_of G net one (shifted G net h s ds) hid.lawful;
        tapes_of_deals = tapes_of G net one ts tapes;
        all_tapes = are_tapes G net one (shifted G net h s ds) hid.lawful;
      }
  on (inr e) = on_none G net ts (shifted G net h s ds) (sym (length-map ts (deal_of G net)) ∙ e) (length_shifted G net h (logs G net h s) ds ∙ e)

  taped : Matched G net h (installed inst h K) shelf s ts (matched G net h s ts)
  taped =
      let o = on (sized_or_none G laws net valid inst h K party shelf s ds sc) in
      let e = o.deals_of_tapes in
      record {
        tapes = o.all_tapes;
        answers = λ agree. hid.answers agree ∙ ap (λ (x : List Deal). runs G net (installed inst h K) shelf (seconds net h s x)) (sym e);
        others = subst (λ (x : List Deal). AllSame net h x ds) (sym e) hid.others;
        exchanged = subst (λ (x : List Deal). Scripted G net h (installed inst h K) shelf (map swap_item s) x) (sym e) hid.exchanged;
        agrees = λ agree. subst (λ (x : List Deal). Agree G net h (map swap_item s) x) (sym e) (hid.agrees agree);
        back = ap (λ (x : List Deal). map (tape_of net) (shifted G net h (map swap_item s) x)) e ∙ ap (map (tape_of net)) hid.undone ∙ o.tapes_of_deals;
      }

-- CALLS

module _ (G : Group) (net : Net) (h : ℕ) where
  record Found (d : Desk) (shelf : List ℕ) (calls : List At) (ds : List Deal) : Type 0 where
    script : List Item
    private : Every (λ (i : Item). Private G i.step) script
    goes : GoesAll G net h d shelf script ds
    exact : length ds ≡ length (logs G net h script)
    same : firsts net h script ds ≡ calls

  -- a step in front of a script
  module _ (d : Desk) (shelf : List ℕ) (p : ℕ) (x : Call) (rest : List At) where
    front : (st : Step) (ds : List Deal) → first_call (top_part net h ds) st ≡ x → Private G st → Goes G.size net d shelf p (top_part net h ds) st
        → ((ls : List Item) → length (left st ds) ≡ length (logs G net h ls) → length ds ≡ length (logs G net h (record { place = p; step = st } ∷ ls)))
        → Found (serve G net d shelf p x).desk (serve G net d shelf p x).shelf rest (left st ds)
        → Found d shelf (to p x ∷ rest) ds
    unfolding Every GoesAll firsts
    front st ds e pr g count f =
        record {
          script = record { place = p; step = st } ∷ f.script;
          private = (pr, f.private);
          goes = (g, subst (λ (c : Call). GoesAll G net h (serve G net d shelf p c).desk (serve G net d shelf p c).shelf f.script (left st ds)) (sym e) f.goes);
          exact = count f.script f.exact;
          same = ap₂ (λ (c : Call) (r : List At). to p c ∷ r) e f.same;
        }

    dealt_front : (b : List ℕ) (ds : List Deal) → x ≡ stock b → shelf_verdict G.size net d shelf p (stock b) ≡ 0 → (more : List (List ℕ)) → b ∷ more ≡ map (part net h) ds
        → ((es : List Deal) → more ≡ map (part net h) es → Found (serve G net d shelf p x).desk (serve G net d shelf p x).shelf rest es)
        → Found d shelf (to p x ∷ rest) ds
    unfolding logs
    dealt_front b [] e v more q f = let z : ◌≡◌ {A = ℕ} 0 1 = cc in absurd (omega arith)
    dealt_front b (d₀ ∷ ds) e v more q f =
        let q₀ : b ≡ part net h d₀ = cc in
        let q₁ : more ≡ map (part net h) ds = cc in
        front dealt (d₀ ∷ ds) (ap stock (sym q₀) ∙ sym e) tt (subst (λ (z : List ℕ). shelf_verdict G.size net d shelf p (stock z) ≡ 0) q₀ v) (λ ls c. ap suc c) (f ds q₁)

    refused_front : (b : List ℕ) (ds : List Deal) → x ≡ stock b → (shelf_verdict G.size net d shelf p (stock b) ≡ 0 → ⊥)
        → Found (serve G net d shelf p x).desk (serve G net d shelf p x).shelf rest ds → Found d shelf (to p x ∷ rest) ds
    unfolding logs
    refused_front b ds e v f = front (rejected b b) ds (sym e) tt (v, refl) (λ ls c. c) f

  abbrev put : Bool → List (List ℕ) → List (List ℕ) → List (List ℕ)
  put b xs more = cond b xs [] ++ more

  put_none : (more : List (List ℕ)) (b : Bool) → put b [] more ≡ more
  put_none more true = refl
  put_none more false = refl

  step_of : (d : Desk) (shelf : List ℕ) (p : ℕ) (x : Call) (rest : List At) (ds : List Deal) (more : List (List ℕ))
      → put (eqb (shelf_verdict G.size net d shelf p x) 0) (bytes_of x) more ≡ map (part net h) ds
      → ((es : List Deal) → more ≡ map (part net h) es → Found (serve G net d shelf p x).desk (serve G net d shelf p x).shelf rest es)
      → Found d shelf (to p x ∷ rest) ds
  unfolding logs
  step_of d shelf p (stock b) rest ds more q f = go (cases_Bool (eqb (shelf_verdict G.size net d shelf p (stock b)) 0))
    where
      go : (eqb (shelf_verdict G.size net d shelf p (stock b)) 0 ≡ true) ⊎ (eqb (shelf_verdict G.size net d shelf p (stock b)) 0 ≡ false) → Found d shelf (to p (stock b) ∷ rest) ds
      go (inl t) = dealt_front d shelf p (stock b) rest b ds refl (eqb-true _ 0 t) more (sym (ap (λ t. put t (b ∷ []) more) t) ∙ q) f
      go (inr t) = refused_front d shelf p (stock b) rest b ds refl (eqb-false _ 0 t) (f ds (sym (ap (λ t. put t (b ∷ []) more) t) ∙ q))
  step_of d shelf p (enter w v) rest ds more q f =
      front d shelf p (enter w v) rest (enters w v v) ds refl (inl refl) tt (λ ls c. c) (f ds (sym (put_none more (eqb (shelf_verdict G.size net d shelf p (enter w v)) 0)) ∙ q))
  step_of d shelf p (takes w m) rest ds more q f =
      front d shelf p (takes w m) rest (common (takes w m)) ds refl tt tt (λ ls c. c) (f ds (sym (put_none more (eqb (shelf_verdict G.size net d shelf p (takes w m)) 0)) ∙ q))
  step_of d shelf p (walk b) rest ds more q f =
      front d shelf p (walk b) rest (common (walk b)) ds refl tt tt (λ ls c. c) (f ds (sym (put_none more (eqb (shelf_verdict G.size net d shelf p (walk b)) 0)) ∙ q))
  step_of d shelf p (hear cs) rest ds more q f =
      front d shelf p (hear cs) rest (common (hear cs)) ds refl tt tt (λ ls c. c) (f ds (sym (put_none more (eqb (shelf_verdict G.size net d shelf p (hear cs)) 0)) ∙ q))
  step_of d shelf p (opens buf) rest ds more q f =
      front d shelf p (opens buf) rest (common (opens buf)) ds refl tt tt (λ ls c. c) (f ds (sym (put_none more (eqb (shelf_verdict G.size net d shelf p (opens buf)) 0)) ∙ q))
  step_of d shelf p (close cs buf) rest ds more q f =
      front d shelf p (close cs buf) rest (common (close cs buf)) ds refl tt tt (λ ls c. c) (f ds (sym (put_none more (eqb (shelf_verdict G.size net d shelf p (close cs buf)) 0)) ∙ q))
  step_of d shelf p drops rest ds more q f =
      front d shelf p drops rest (common drops) ds refl tt tt (λ ls c. c) (f ds (sym (put_none more (eqb (shelf_verdict G.size net d shelf p drops) 0)) ∙ q))

  found : (calls : List At) (d : Desk) (shelf : List ℕ) (ds : List Deal) → stocks G net d shelf calls ≡ map (part net h) ds → Found d shelf calls ds
  unfolding stocks Every GoesAll logs firsts
  found [] d shelf [] q = record { script = []; private = tt; goes = tt; exact = refl; same = refl }
  found [] d shelf (e ∷ ds) q = let z : ◌≡◌ {A = ℕ} 0 1 = cc in absurd (omega arith)
  found (a ∷ rest) d shelf ds q =
      step_of d shelf a.place a.call rest ds (stocks G net (serve G net d shelf a.place a.call).desk (serve G net d shelf a.place a.call).shelf rest) q
      (λ es r. found rest (serve G net d shelf a.place a.call).desk (serve G net d shelf a.place a.call).shelf es r)

pub secrecy : Secrecy
secrecy =
    record {
      hides = hidden;
      over_tapes = taped;
      nothing_lost = λ G net inst h K shelf calls ds ok q.
          let f = found G net h calls (installed inst h K) shelf ds q in
          record { script = f.script; scripted = record { private = f.private; goes = f.goes; lawful = ok; exact = f.exact }; same = f.same };
    }
