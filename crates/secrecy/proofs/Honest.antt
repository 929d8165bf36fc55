-- The honest run of one host.
use Rattle.std.proofs.Common.{◌≡◌, ℕ, zero, suc, ◌+◌, ◌-◌, ◌*◌, ◌<◌, ◌≤◌, Bool, true, false, cond, not, ◌&&◌, eqb, ltb, ◌⊎◌, List, [], ◌∷◌, ◌++◌, map, length, get_or, take, drop, set, replicate, sym, refl, ap, ◌∙◌, subst, ap₂, inl, inr, suc-mul, zero-mul, arith}
use Rattle.std.specs.List.{range_with_len, flat_map}
use Rattle.std.proofs.lemmas.List.{append_assoc, get_or-drop, take_all, get_or-set_same, get_or-set_other, length-set, length-append, length-map, length-drop, length-take-le, length-replicate, get_or_append_left, get_or-append_right, get_or-append-add, get_or-map, get_or_past, set_at, replicate_more, ext_get_or, get_or-replicate}
use Rattle.std.proofs.lemmas.Bool.{cases_eq, cases_lt, eqb-true, eq-eqb, ne_eqb, lt-ltb, le-ltb, and_from, not_from_false}
use Rattle.std.proofs.lemmas.List.FromFn.{length-range_with_len}
use Rattle.groups.specs.Kept.{codes_set, codes_zeros, codes_append, codes_none}
use Rattle.groups.specs.Group.{Group, Laws, Codes, sub}
use Rattle.groups.specs.Total.{total}
use Rattle.model.specs.Words.{at, each, tally}
use Rattle.model.specs.Net.{Gate, adds, shifts, maps, looks, Net, Valid, inputs, gate_at, wires, is_look, first_of, ordinal, look_total, lookup_at}
use Rattle.model.specs.Deal.{Deal, Lawful, masks, cells, column, others, block, part, part_length, owned}
use Rattle.model.proofs.Listed.{at_each, length_each, codes_each, code_at}
use Rattle.model.specs.Clear.{clear, clearly, outputs_of}
use Rattle.model.specs.Shelf.{installed, nowhere, same_counts}
use Rattle.model.specs.Place.{place_of}
use Rattle.model.proofs.Counts.{tally_append}
use Rattle.model.proofs.Wires.{flow_input}
use Rattle.model.proofs.Lookups.{look_at}
use Rattle.model.proofs.Sums.{column_code, column_codes, column_split, others_codes}
use Rattle.model.proofs.Masks as mks
use Rattle.model.proofs.Masks.{part_mask, part_length_lem, part_codes}
use Rattle.model.specs.Host.{Phase, empty, gathering, walking, waiting, ended, opened, Call, stock, enter, takes, walk, hear, opens, close, Control, Place, number, at_end, share, Reply, blank, stocked, lacking, or, failing, is, mine_at, theirs_at, absent, own, stride, steps, the_end, a_look, stop_of, stop_at, operand_of, pass, mask_at, share_at, cell_at, entered_at, heard_at, shares_of, result_at, filling, walk_to, walk_answer, accept}
use Rattle.groups.specs.Tested.{are_codes}
use Rattle.secrecy.specs.Evaluation.{Log, Sane}
use Rattle.secrecy.specs.Script.{refusal}
use Rattle.secrecy.specs.Honest.{other_parties, sends_input, sends_share, masked_at, column_at, start_at, input_call, look_calls, others_outputs, last_calls, honest_calls, plain, input_seen, look_seen, last_seen, honest_seen, Honest}
use Rattle.secrecy.proofs.Algebra as alg
use Rattle.secrecy.proofs.Algebra.{Code}
use Rattle.secrecy.proofs.Runs as run
use Rattle.secrecy.proofs.Cells as cl
use Rattle.secrecy.proofs.Control.{codes_are, steps_le, steps_plain, ordinal_more, ordinal_walk}
use Rattle.secrecy.proofs.Held.{masked, Fit, masked_is_code, fit_more, pass_fit}
use Rattle.secrecy.proofs.Busy.{mk, acts_is, act_accepted, can_read}
use Rattle.secrecy.proofs.Sent as sn
use Rattle.secrecy.proofs.Sent.{part_share, sent_column}
use Rattle.secrecy.proofs.Plays.{seen_of, play, plays}

-- where a WALK stops that may pass all gates: at the end, or at a LOOK
abbrev Stops : List Gate → ℕ → Type 0
Stops gs n = (n ≡ length gs) ⊎ ((f : ℕ) × (t : ℕ) × (n < length gs) × (get_or gs n (adds 0 0) ≡ looks f t))

one_more : (g : Gate) (gs : List Gate) (n : ℕ) → Stops gs n → Stops (g ∷ gs) (suc n)
one_more g gs n (inl e) = inl (ap suc e)
one_more g gs n (inr p) = let (f, t, l, e) = p in inr (f, t, omega arith, e)

stride_stops : (b : ℕ) (gs : List Gate) → length gs ≤ b → Stops gs (stride b gs)
unfolding stride
stride_stops b [] l = inl refl
stride_stops zero (g ∷ gs) l = absurd (omega arith)
stride_stops (suc b) (adds f s ∷ gs) l = one_more (adds f s) gs (stride b gs) (stride_stops b gs (omega arith))
stride_stops (suc b) (shifts f s ∷ gs) l = one_more (shifts f s) gs (stride b gs) (stride_stops b gs (omega arith))
stride_stops (suc b) (maps f s ∷ gs) l = one_more (maps f s) gs (stride b gs) (stride_stops b gs (omega arith))
stride_stops (suc b) (looks f s ∷ gs) l = inr (f, s, omega arith, refl)

module _ (net : Net) where
  abbrev reached : ℕ → ℕ
  reached g = g + steps net g (length net.gates)

  stops : (g : ℕ) → g ≤ length net.gates → (reached g ≡ length net.gates) ⊎ ((f : ℕ) × (t : ℕ) × (reached g < length net.gates) × (gate_at net (reached g) ≡ looks f t))
  stops g l = go (stride_stops (length net.gates) (drop g net.gates) (omega (arith, length-drop g net.gates)))
    where
      go : (steps net g (length net.gates) ≡ length (drop g net.gates))
          ⊎ ((f : ℕ) × (t : ℕ) × (steps net g (length net.gates) < length (drop g net.gates)) × (get_or (drop g net.gates) (steps net g (length net.gates)) (adds 0 0) ≡ looks f t))
          → (reached g ≡ length net.gates) ⊎ ((f : ℕ) × (t : ℕ) × (reached g < length net.gates) × (gate_at net (reached g) ≡ looks f t))
      go (inl e) = inl (omega (arith, length-drop g net.gates))
      go (inr p) = let (f, t, l, e) = p in inr (f, t, omega (arith, length-drop g net.gates), rw get_or-drop at e)

  same_ordinal : (g : ℕ) → g ≤ length net.gates → ordinal net (reached g) ≡ ordinal net g
  same_ordinal g l = ordinal_walk net g (steps net g (length net.gates)) (steps_le net g (length net.gates) l) (λ k m. steps_plain net g (length net.gates) k m)

  last_ordinal : ordinal net (length net.gates) ≡ look_total net
  last_ordinal = ap (tally is_look) (take_all (length net.gates) net.gates (omega arith))

  to_look : (g : ℕ) → g ≤ length net.gates → ordinal net g < look_total net → (f : ℕ) × (t : ℕ) × (reached g < length net.gates) × (gate_at net (reached g) ≡ looks f t)
  to_look g l s = go (stops g l)
    where
      go : (reached g ≡ length net.gates) ⊎ ((f : ℕ) × (t : ℕ) × (reached g < length net.gates) × (gate_at net (reached g) ≡ looks f t))
          → (f : ℕ) × (t : ℕ) × (reached g < length net.gates) × (gate_at net (reached g) ≡ looks f t)
      go (inl e) = let z : ordinal net g ≡ look_total net = sym (same_ordinal g l) ∙ ap (ordinal net) e ∙ last_ordinal in absurd (omega arith)
      go (inr p) = p

  to_end : (g : ℕ) → g ≤ length net.gates → ordinal net g ≡ look_total net → reached g ≡ length net.gates
  to_end g l s = go (stops g l)
    where
      go : (reached g ≡ length net.gates) ⊎ ((f : ℕ) × (t : ℕ) × (reached g < length net.gates) × (gate_at net (reached g) ≡ looks f t)) → reached g ≡ length net.gates
      go (inl e) = e
      go (inr p) = let (f, t, l', e) = p in let z = (look_at net (reached g) f t l' e).small in let y = same_ordinal g l in absurd (omega arith)

-- the parties other than h
others_count : (net : Net) (h : ℕ) → h < net.parties → length (other_parties net h) ≡ net.parties - 1
others_count net h own =
    let c = length-range_with_len 0 net.parties in
    length-append (take h (range_with_len 0 net.parties)) (drop (h + 1) (range_with_len 0 net.parties))
    ∙ omega (arith, length-take-le h (range_with_len 0 net.parties) (omega arith), length-drop (h + 1) (range_with_len 0 net.parties))

-- what pieces of one length hold
length_pieces : (n : ℕ) (f : ℕ → ℕ → ℕ) (ps : List ℕ) → length (flat_map (λ p. each n (f p)) ps) ≡ length ps * n
length_pieces n f [] = sym (zero-mul n)
length_pieces n f (p ∷ ps) = length-append (each n (f p)) _ ∙ omega (arith, length_each n (f p), length_pieces n f ps, suc-mul (length ps) n)

at_pieces : (n : ℕ) (f : ℕ → ℕ → ℕ) (ps : List ℕ) (j k : ℕ) → j < length ps → k < n → at (flat_map (λ p. each n (f p)) ps) (j * n + k) ≡ f (at ps j) k
at_pieces n f [] j k l m = absurd (omega arith)
at_pieces n f (p ∷ ps) zero k l m =
    let e : 0 * n + k ≡ k = omega (arith, zero-mul n) in
    ap (at (each n (f p) ++ flat_map (λ p. each n (f p)) ps)) e ∙ get_or_append_left (each n (f p)) _ 0 k (rw (length_each n (f p)) m) ∙ at_each n (f p) k m
at_pieces n f (p ∷ ps) (suc j) k l m =
    let e : suc j * n + k ≡ length (each n (f p)) + (j * n + k) = omega (arith, suc-mul j n, length_each n (f p)) in
    ap (at (each n (f p) ++ flat_map (λ p. each n (f p)) ps)) e ∙ get_or-append-add (each n (f p)) (flat_map (λ p. each n (f p)) ps) (j * n + k) 0 ∙ at_pieces n f ps j k (omega arith) m

codes_pieces : (G : Group) (n : ℕ) (f : ℕ → ℕ → ℕ) (ps : List ℕ) → ((p k : ℕ) → k < n → f p k < G.size) → Codes G (flat_map (λ p. each n (f p)) ps)
codes_pieces G n f [] c = codes_none G
codes_pieces G n f (p ∷ ps) c = codes_append G (each n (f p)) _ (codes_each G n (f p) (c p)) (codes_pieces G n f ps c)

lacking_trues : (a : ℕ) → lacking (replicate a true) ≡ 0
lacking_trues zero = refl
lacking_trues (suc a) = let e = lacking_trues a in omega arith

lacking_falses : (b : ℕ) → lacking (replicate b false) ≡ b
lacking_falses zero = refl
lacking_falses (suc b) = let e = lacking_falses b in omega arith

lacking_is : (a b : ℕ) → lacking (replicate a true ++ replicate b false) ≡ b
lacking_is a b = tally_append not (replicate a true) (replicate b false) ∙ omega (arith, lacking_trues a, lacking_falses b)

given_next : (n w : ℕ) → w < n → set (replicate w true ++ replicate (n - w) false) w true ≡ replicate (w + 1) true ++ replicate (n - (w + 1)) false
given_next n w l =
    let e : n - w ≡ suc (n - (w + 1)) = omega arith in
    ap (λ m. set (replicate w true ++ replicate m false) w true) e
    ∙ set_at (replicate w true) false (replicate (n - (w + 1)) false) true w (length-replicate w true)
    ∙ sym (append_assoc (replicate w true) (true ∷ []) (replicate (n - (w + 1)) false))
    ∙ ap (λ xs. xs ++ replicate (n - (w + 1)) false) (replicate_more w true)

not_yet : (n w : ℕ) → w < n → get_or (replicate w true ++ replicate (n - w) false) w false ≡ false
not_yet n w l =
    get_or-append_right (replicate w true) (replicate (n - w) false) w w false (length-replicate w true) (omega arith)
    ∙ get_or-replicate (n - w) (w - w) false false (omega arith)

pass1 : (a b : Bool) (n m : ℕ) → a ≡ true → b ≡ true → failing (or n a ∷ or m b ∷ []) ≡ 0
pass1 a b n m x y = rw (x, y) refl

pass2 : (a b c : Bool) (n m k : ℕ) → a ≡ true → b ≡ true → c ≡ true → failing (or n a ∷ or m b ∷ or k c ∷ []) ≡ 0
pass2 a b c n m k x y z = rw (x, y, z) refl

pass3 : (a b c e : Bool) (n m k j : ℕ) → a ≡ true → b ≡ true → c ≡ true → e ≡ true → failing (or n a ∷ or m b ∷ or k c ∷ or j e ∷ []) ≡ 0
pass3 a b c e n m k j x y z u = rw (x, y, z, u) refl

module _ (G : Group) (laws : Laws G) (net : Net) (valid : Valid net) (same : G.size ≡ net.size) (h : ℕ) (own_party : h < net.parties)
    (d : Deal) (ok : Lawful G net d) (values : List ℕ) (long : length values ≡ inputs net) (codes : Codes G values) where
  abbrev F : Log
  F = sn.F G laws net valid same h own_party d ok values long codes

  abbrev B : List ℕ
  B = part net h d

  sane : Sane G net h F
  sane = sn.sane G laws net valid same h own_party d ok values long codes

  b_codes : Codes G B
  b_codes = part_codes G net h own_party d ok

  -- the masked value of a wire
  abbrev V : ℕ → ℕ
  V w = masked G net h F d w

  v_is : (w : ℕ) → w < wires net → V w ≡ masked_at G net d values w
  v_is w l = ap (λ x. G.add x (at (masks G net d) w)) (sn.first_is_clear G laws net valid same h own_party d ok values long codes w l)

  v_code : (w : ℕ) → Code G (V w)
  v_code = masked_is_code G laws net valid same h F sane d ok

  go_on : (c : Control) (ws : List ℕ) (x : Call) (rest : List Call) → Codes G ws → refusal net h c x ≡ 0
      → play G net h (mk c B ws) (x ∷ rest) ≡ seen_of (accept G net h (mk c B ws) x) ∷ play G net h (accept G net h (mk c B ws) x).place rest
  unfolding play
  go_on c ws x rest cw e =
      ap (λ (r : Reply). seen_of r ∷ play G net h r.place rest)
      (sym (acts_is G net h (mk c B ws) x) ∙ act_accepted G net h (mk c B ws) x e (can_read G laws net valid same h own_party c B ws b_codes cw x))

  -- INPUTS

  abbrev cin : ℕ → Control
  cin w =
      record {
        phase = cond (eqb (inputs net - w) 0) walking gathering;
        given = replicate w true ++ replicate (inputs net - w) false;
        gate = 0;
        shares = 0;
      }

  cin_next : (w : ℕ) → w < inputs net → filling (cin w) w ≡ cin (w + 1)
  cin_next w l =
      let e = given_next (inputs net) w l in
      ap₂ (λ (gs : List Bool) (n : ℕ). record { phase = cond (eqb n 0) walking gathering; given = gs; gate = 0; shares = 0 }) e (ap lacking e ∙ lacking_is (w + 1) (inputs net - (w + 1)))

  -- wires below n hold masked values
  record Upto (n : ℕ) (ws : List ℕ) : Type 0 where
    long' : length ws ≡ wires net
    codes' : Codes G ws
    below : (w : ℕ) → w < n → at ws w ≡ V w

  upto_more : (w v : ℕ) (ws : List ℕ) → w < wires net → v ≡ V w → Upto w ws → Upto (w + 1) (set ws w v)
  upto_more w v ws l e u =
      record {
        long' = length-set ws w v ∙ u.long';
        codes' = codes_set G ws w v u.codes' (rw e (v_code w));
        below = λ i s. go i s (cases_eq i w);
      }
    where
      go : (i : ℕ) → i < w + 1 → (i ≡ w) ⊎ (i ≡ w → ⊥) → at (set ws w v) i ≡ V i
      go i s (inl q) = rw q (get_or-set_same ws w v 0 (rw u.long' l) ∙ e)
      go i s (inr n) = get_or-set_other ws w i v 0 n ∙ u.below i (omega arith)

  sent_input : (w : ℕ) → w < inputs net → sends_input G net d values w ≡ V w
  sent_input w l =
      let m : mask_at net (at net.owners w) (part net (at net.owners w) d) w ≡ at d.inputs w = part_mask G net (at net.owners w) (valid.named.0 w l) d ok w l refl in
      let c : at (clear G net values) w ≡ at values w = flow_input net valid G (clearly G net) values long w l in
      let k : at (masks G net d) w ≡ at d.inputs w = mks.mask_input G net valid d ok.inputs_length w l in
      let v = v_is w (omega arith) in
      cc

  gathers : (w : ℕ) → w < inputs net → is gathering (cin w).phase ≡ true
  gathers w l = ap (λ b. is gathering (cond b walking gathering)) (ne_eqb (inputs net - w) 0 (λ e. absurd (omega arith)))

  small : (x : ℕ) → Code G x → ltb x net.size ≡ true
  small x c = lt-ltb x net.size (rw (← same) c)

  one_input : (w : ℕ) (ws : List ℕ) (rest : List Call) → w < inputs net → Upto w ws → (b : Bool) → eqb (at net.owners w) h ≡ b
      → play G net h (mk (cin w) B ws) (cond b (enter w (at values w)) (takes w (sends_input G net d values w)) ∷ rest)
      ≡ plain (number (cond b (sends_input G net d values w) (inputs net - (w + 1)))) ∷ play G net h (mk (cin (w + 1)) B (set ws w (V w))) rest
  unfolding refusal
  one_input w ws rest l u true e =
      let o : at net.owners w ≡ h = eqb-true (at net.owners w) h e in
      let s : entered_at G net h (mk (cin w) B ws) w (at values w) ≡ sends_input G net d values w = ap (λ p. G.add (at values w) (mask_at net p (part net p d) w)) (sym o) in
      let r = pass3 (is gathering (cin w).phase) (mine_at net h w) (absent (cin w) w) (ltb (at values w) net.size) 12 13 14 16 (gathers w l)
      (and_from _ _ (lt-ltb w (inputs net) l) e) (not_from_false _ (not_yet (inputs net) w l)) (small (at values w) (sn.value_code G laws net valid same h own_party d ok values long codes w)) in
      go_on (cin w) ws (enter w (at values w)) rest u.codes' r
      ∙ ap₂ (λ (x y : ℕ). plain (number x) ∷ play G net h (mk (filling (cin w) w) B (set ws w y)) rest) s (s ∙ sent_input w l)
      ∙ ap (λ c. plain (number (sends_input G net d values w)) ∷ play G net h (mk c B (set ws w (V w))) rest) (cin_next w l)
  one_input w ws rest l u false e =
      let m = sends_input G net d values w in
      let r = pass3 (is gathering (cin w).phase) (theirs_at net h w) (absent (cin w) w) (ltb m net.size) 12 13 14 16 (gathers w l)
      (and_from _ _ (lt-ltb w (inputs net) l) (not_from_false _ e)) (not_from_false _ (not_yet (inputs net) w l)) (small m (rw (sent_input w l) (v_code w))) in
      go_on (cin w) ws (takes w m) rest u.codes' r
      ∙ ap₂ (λ (x y : ℕ). plain (number x) ∷ play G net h (mk (filling (cin w) w) B (set ws w y)) rest) (ap lacking (given_next (inputs net) w l) ∙ lacking_is (w + 1) (inputs net - (w + 1))) (sent_input w l)
      ∙ ap (λ c. plain (number (inputs net - (w + 1))) ∷ play G net h (mk c B (set ws w (V w))) rest) (cin_next w l)

  record Filled (w n : ℕ) (ws : List ℕ) : Type 0 where
    wires' : List ℕ
    upto : Upto (inputs net) wires'
    path : (rest : List Call) → play G net h (mk (cin w) B ws) (map (input_call G net h d values) (range_with_len w n) ++ rest)
        ≡ map (input_seen G net h d values) (range_with_len w n) ++ play G net h (mk (cin (inputs net)) B wires') rest

  all_inputs : (n w : ℕ) (ws : List ℕ) → w + n ≡ inputs net → Upto w ws → Filled w n ws
  all_inputs zero w ws e u =
      let q : w ≡ inputs net = omega arith in
      record { wires' = ws; upto = subst (λ (x : ℕ). Upto x ws) q u; path = λ rest. ap (λ x. play G net h (mk (cin x) B ws) rest) q }
  all_inputs (suc n) w ws e u =
      let more = all_inputs n (w + 1) (set ws w (V w)) (omega arith) (upto_more w (V w) ws (omega arith) refl u) in
      record {
        wires' = more.wires';
        upto = more.upto;
        path = λ rest.
            one_input w ws (map (input_call G net h d values) (range_with_len (w + 1) n) ++ rest) (omega arith) u (eqb (at net.owners w) h) refl
            ∙ ap (λ xs. input_seen G net h d values w ∷ xs) (more.path rest);
      }

  -- LOOKS

  abbrev crun : ℕ → ℕ → Control
  crun g l = record { phase = walking; given = (cin (inputs net)).given; gate = g; shares = l }

  abbrev cwait : ℕ → ℕ → Control
  cwait g l = record { phase = waiting; given = (cin (inputs net)).given; gate = g; shares = l }

  -- before LOOK l
  record Before (l : ℕ) : Type 0 where
    gate : ℕ
    wires' : List ℕ
    fit : Fit G net h F d gate wires'
    inside : gate ≤ length net.gates
    ord : ordinal net gate ≡ l
    start : inputs net + gate ≡ start_at net l

  -- what the others send at a column
  sent : ℕ → List ℕ
  sent k = map (sends_share net d k) (other_parties net h)

  sent_codes : (k : ℕ) → Codes G (map (sends_share net d k) (other_parties net h))
  sent_codes k =
      subst (λ (xs : List ℕ). Codes G xs) (sym (sent_column G net d ok h k))
      (column_codes G laws (others h d.shares) k (others_codes G laws h d.shares (mks.blocks G laws net valid same d ok)))

  sent_count : (k : ℕ) → length (map (sends_share net d k) (other_parties net h)) ≡ net.parties - 1
  sent_count k = length-map (other_parties net h) (sends_share net d k) ∙ others_count net h own_party

  module _ (l : ℕ) (here : l < look_total net) (b : Before l) where
    abbrev n : ℕ
    n = steps net b.gate (length net.gates)

    abbrev k : ℕ
    k = b.gate + steps net b.gate (length net.gates)

    abbrev ws : List ℕ
    ws = pass G net (steps net b.gate (length net.gates)) b.gate b.wires'

    ord_k : ordinal net k ≡ l
    ord_k = same_ordinal net b.gate b.inside ∙ b.ord

    at_k : (f : ℕ) × (t : ℕ) × (k < length net.gates) × (gate_at net k ≡ looks f t)
    at_k = to_look net b.gate b.inside (rw b.ord here)

    fit_k : Fit G net h F d k ws
    fit_k =
        pass_fit G laws net valid same h F sane d ok n b.gate b.wires' (steps_le net b.gate (length net.gates) b.inside)
        (λ j m. steps_plain net b.gate (length net.gates) j m) b.fit

    module _ (f t : ℕ) (inside : k < length net.gates) (look : gate_at net k ≡ looks f t) where
      reads : f < inputs net + k
      reads = subst (λ (x : Gate). first_of x < inputs net + k) look (valid.wired k inside).0

      stop : stop_at net k ≡ a_look f
      stop = rw (lt-ltb k (length net.gates) inside, look) refl

      operand : (lookup_at net l).operand ≡ f
      operand = ap (λ o. (lookup_at net o).operand) (sym ord_k) ∙ (look_at net k f t inside look).operand

      wire : (lookup_at net l).wire ≡ inputs net + k
      wire = ap (λ o. (lookup_at net o).wire) (sym ord_k) ∙ (look_at net k f t inside look).wire

      value : at ws f ≡ masked_at G net d values f
      value = let r = reads in fit_k.below f r ∙ v_is f (omega arith)

      column_is : ordinal net k * net.size + at ws f ≡ column_at G net d values l
      column_is = ap₂ (λ o x. o * net.size + x) ord_k value ∙ ap (λ o. l * net.size + masked_at G net d values o) (sym operand)

      passed : n ≡ (lookup_at net l).wire - start_at net l
      passed = let e = wire in let s = b.start in omega arith

      heard_is : heard_at G net h (mk (cwait k (l + 1)) B ws) (map (sends_share net d (column_at G net d values l)) (other_parties net h)) ≡ V (inputs net + k)
      heard_is =
          let o = ordinal net k in
          let lo : o < look_total net = rw ord_k here in
          let cs = map (sends_share net d (column_at G net d values l)) (other_parties net h) in
          let a : cell_at net h B k (at ws (operand_of (stop_at net k))) ≡ at (block d.shares h) (o * net.size + V f)
          = ap (λ s. cell_at net h B k (at ws (operand_of s))) stop ∙ ap (λ x. cell_at net h B k x) (fit_k.below f reads) ∙ part_share G net d ok h (o * net.size + V f) in
          let e : total G cs ≡ at F.heard o
          = ap (total G) (sent_column G net d ok h (column_at G net d values l))
          ∙ ap (λ j. total G (column (others h d.shares) (column_at G net d values j))) (sym ord_k)
          ∙ sym (at_each (look_total net) (sn.sums_at G laws net valid same h own_party d ok values long codes) o lo) in
          let hl : o < length F.heard = rw (length_each (look_total net) (sn.sums_at G laws net valid same h own_party d ok values long codes)) lo in
          ap₂ G.add a e ∙ cl.heard_value G laws net valid same h own_party F sane d ok k f t inside look reads lo hl

      walk_path : (rest : List Call) → play G net h (mk (crun b.gate l) B b.wires') (walk (length net.gates) ∷ rest)
          ≡ plain (share (sends_share net d (column_at G net d values l) h) ((lookup_at net l).wire - start_at net l) (l + 1)) ∷ play G net h (mk (cwait k (l + 1)) B ws) rest
      unfolding refusal
      walk_path rest =
          go_on (crun b.gate l) b.wires' (walk (length net.gates)) rest b.fit.codes refl
          ∙ ap (λ s. plain (walk_answer net h (mk (crun b.gate l) B b.wires') n ws s) ∷ play G net h (mk (walk_to (crun b.gate l) k s) B ws) rest) stop
          ∙ ap₂ (λ c m. plain (share (share_at net h B c) m (l + 1)) ∷ play G net h (mk (cwait k (l + 1)) B ws) rest) column_is passed

      hear_path : (rest : List Call) → play G net h (mk (cwait k (l + 1)) B ws) (hear (map (sends_share net d (column_at G net d values l)) (other_parties net h)) ∷ rest)
          ≡ plain (number (masked_at G net d values (lookup_at net l).wire)) ∷ play G net h (mk (crun (k + 1) (l + 1)) B (set ws (inputs net + k) (V (inputs net + k)))) rest
      unfolding refusal
      hear_path rest =
          let cs = map (sends_share net d (column_at G net d values l)) (other_parties net h) in
          let c = column_at G net d values l in
          go_on (cwait k (l + 1)) ws (hear cs) rest fit_k.codes
          (pass1 (eqb (length cs) (net.parties - 1)) (are_codes net.size cs) 15 16 (eq-eqb _ _ (sent_count c)) (codes_are G net same cs (sent_codes c)))
          ∙ ap₂ (λ x y. plain (number x) ∷ play G net h (mk (crun (k + 1) (l + 1)) B (set ws (inputs net + k) y)) rest)
          (heard_is ∙ v_is (inputs net + k) (omega arith) ∙ ap (masked_at G net d values) (sym wire)) heard_is

      abbrev after : Before (l + 1)
      after =
          let e : suc k ≡ k + 1 = omega arith in
          record {
            gate = k + 1;
            wires' = set ws (inputs net + k) (V (inputs net + k));
            fit = subst (λ (x : ℕ). Fit G net h F d x (set ws (inputs net + k) (V (inputs net + k)))) e
                (fit_more G laws net valid same h F sane d ok k (V (inputs net + k)) ws inside refl fit_k);
            inside = omega arith;
            ord = ordinal_more net k inside (looks f t) look ∙ omega (arith, ord_k);
            start =
                let m : l + 1 - 1 ≡ l = omega arith in
                let z = ap (λ b. cond b (inputs net) ((lookup_at net (l + 1 - 1)).wire + 1)) (ne_eqb (l + 1) 0 (λ e. absurd (omega arith))) in
                sym (z ∙ ap (λ j. (lookup_at net j).wire + 1) m ∙ omega (arith, wire));
          }

  record Looked (l n : ℕ) (b : Before l) : Type 0 where
    end : Before (look_total net)
    path : (rest : List Call) → play G net h (mk (crun b.gate l) B b.wires') (flat_map (look_calls G net h d values) (range_with_len l n) ++ rest)
        ≡ flat_map (look_seen G net h d values) (range_with_len l n) ++ play G net h (mk (crun end.gate (look_total net)) B end.wires') rest

  all_looks : (n l : ℕ) → l + n ≡ look_total net → (b : Before l) → Looked l n b
  all_looks zero l e b =
      let q : l ≡ look_total net = omega arith in
      record {
        end = record { gate = b.gate; wires' = b.wires'; fit = b.fit; inside = b.inside; ord = b.ord ∙ q; start = b.start ∙ ap (start_at net) q };
        path = λ rest. ap (λ x. play G net h (mk (crun b.gate x) B b.wires') rest) q;
      }
  all_looks (suc n) l e b =
      let (f, t, inside, look) = at_k l (omega arith) b in
      let next = after l (omega arith) b f t inside look in
      let more = all_looks n (l + 1) (omega arith) next in
      record {
        end = more.end;
        path = λ rest.
            walk_path l (omega arith) b f t inside look _
            ∙ ap (λ xs. plain (share (sends_share net d (column_at G net d values l) h) ((lookup_at net l).wire - start_at net l) (l + 1)) ∷ xs)
            (hear_path l (omega arith) b f t inside look _
            ∙ ap (λ xs. plain (number (masked_at G net d values (lookup_at net l).wire)) ∷ xs) (more.path rest));
      }

  -- OUTPUTS

  share_code : (p k : ℕ) → Code G (sends_share net d k p)
  share_code p k = rw (part_share G net d ok p k) (go (cases_lt p net.parties))
    where
      go : (p < net.parties) ⊎ (net.parties ≤ p) → Code G (at (block d.shares p) k)
      go (inl l) = code_at G laws (block d.shares p) (ok.block_codes p l) k
      go (inr l) = rw (get_or_past d.shares p [] (rw ok.shares_length l)) (alg.zero_code G laws)

  abbrev cs : List ℕ
  cs = others_outputs net h d

  abbrev m : ℕ
  m = length net.outputs

  outputs_count : length cs ≡ (net.parties - 1) * m
  outputs_count = length_pieces m (λ p k. sends_share net d (cells net + k) p) (other_parties net h) ∙ ap (λ n. n * m) (others_count net h own_party)

  outputs_codes : Codes G cs
  outputs_codes = codes_pieces G m (λ p k. sends_share net d (cells net + k) p) (other_parties net h) (λ p k _. share_code p (cells net + k))

  -- the others' shares of an output
  shares_are : (j : ℕ) → j < m → shares_of net cs j ≡ column (others h d.shares) (cells net + j)
  shares_are j l =
      ext_get_or 0 (shares_of net cs j) (map (sends_share net d (cells net + j)) (other_parties net h))
      (length_each (net.parties - 1) (λ p. at cs (p * m + j)) ∙ sym (sent_count (cells net + j)))
      (λ i q.
      let s : i < net.parties - 1 = rw (length_each (net.parties - 1) (λ p. at cs (p * m + j))) at q in
      let c : i < length (other_parties net h) = rw (others_count net h own_party) s in
      at_each (net.parties - 1) (λ p. at cs (p * m + j)) i s
      ∙ at_pieces m (λ p k. sends_share net d (cells net + k) p) (other_parties net h) i j c l
      ∙ sym (get_or-map (sends_share net d (cells net + j)) (other_parties net h) i 0 0 c))
      ∙ sent_column G net d ok h (cells net + j)

  result : (c : Control) (ws : List ℕ) (j : ℕ) → j < m → at ws (at net.outputs j) ≡ V (at net.outputs j)
      → result_at G net h (mk c B ws) cs j ≡ at (clear G net values) (at net.outputs j)
  result c ws j l e =
      let o = at net.outputs j in
      let b = at (block d.shares h) (cells net + j) in
      let blocks = mks.blocks G laws net valid same d ok in
      let r = total G (column (others h d.shares) (cells net + j)) in
      let split : G.add b r ≡ at (masks G net d) o
      = sym (column_split G laws h d.shares (cells net + j) (rw ok.shares_length own_party) blocks) ∙ ok.sums (cells net + j) (omega arith)
      ∙ cl.owed_output G net (masks G net d) j l in
      let v = v_is o (valid.named.1 j l) in
      let x = run.first_code G laws net valid same h F sane d ok o in
      let y = sn.first_is_clear G laws net valid same h own_party d ok values long codes o (valid.named.1 j l) in
      ap (λ z. sub G (sub G z (share_at net h B (cells net + j))) (total G (shares_of net cs j))) (e ∙ v)
      ∙ ap₂ (λ z u. sub G (sub G (masked_at G net d values o) z) (total G u)) (part_share G net d ok h (cells net + j)) (shares_are j l)
      ∙ alg.shares_off G laws (at (clear G net values) o) (at (masks G net d) o) b r (subst (λ (z : ℕ). Code G z) y x)
      (mks.mask_code G laws net valid same d ok o) (code_at G laws (block d.shares h) (ok.block_codes h own_party) (cells net + j))
      (column_code G laws (others h d.shares) (cells net + j) (others_codes G laws h d.shares blocks)) split

  results : (c : Control) (ws : List ℕ) → ((w : ℕ) → w < wires net → at ws w ≡ V w) → each m (result_at G net h (mk c B ws) cs) ≡ outputs_of net (clear G net values)
  results c ws all =
      ext_get_or 0 (each m (result_at G net h (mk c B ws) cs)) (outputs_of net (clear G net values))
      (length_each m (result_at G net h (mk c B ws) cs) ∙ sym (length-map net.outputs (at (clear G net values))))
      (λ j q.
      let l : j < m = rw (length_each m (result_at G net h (mk c B ws) cs)) at q in
      at_each m (result_at G net h (mk c B ws) cs) j l ∙ result c ws j l (all (at net.outputs j) (valid.named.1 j l))
      ∙ sym (get_or-map (at (clear G net values)) net.outputs j 0 0 l))

  abbrev cend : Phase → ℕ → Control
  cend p g = record { phase = p; given = (cin (inputs net)).given; gate = g; shares = look_total net }

  module _ (buffer buffer' : List ℕ) (lb : length buffer ≡ length net.outputs) (lb' : length buffer' ≡ length net.outputs) where
    last_path : (b : Before (look_total net)) → play G net h (mk (crun b.gate (look_total net)) B b.wires') (last_calls net h d buffer buffer') ≡ last_seen G net h d values
    unfolding refusal play
    last_path b =
        let n = steps net b.gate (length net.gates) in
        let k = b.gate + n in
        let ws = pass G net n b.gate b.wires' in
        let e : k ≡ length net.gates = to_end net b.gate b.inside b.ord in
        let fit : Fit G net h F d k ws
        = pass_fit G laws net valid same h F sane d ok n b.gate b.wires' (steps_le net b.gate (length net.gates) b.inside)
        (λ j m. steps_plain net b.gate (length net.gates) j m) b.fit in
        let stop : stop_at net k ≡ the_end = ap (λ t. cond t (stop_of (gate_at net k)) the_end) (le-ltb k (length net.gates) (omega arith)) in
        let passed : n ≡ wires net - start_at net (look_total net) = let s = b.start in omega arith in
        let L = look_total net in
        go_on (crun b.gate L) b.wires' (walk (length net.gates)) (opens buffer ∷ close cs buffer' ∷ []) b.fit.codes refl
        ∙ ap (λ s. plain (walk_answer net h (mk (crun b.gate L) B b.wires') n ws s) ∷ play G net h (mk (walk_to (crun b.gate L) k s) B ws) (opens buffer ∷ close cs buffer' ∷ [])) stop
        ∙ ap₂ (λ n xs. plain (at_end n L) ∷ xs) passed
        (go_on (cend ended k) ws (opens buffer) (close cs buffer' ∷ []) fit.codes (ap (λ t. cond t 0 15) (eq-eqb (length buffer) m lb))
        ∙ ap (λ xs. record { answer = number m; buffer = each m (λ k. sends_share net d (cells net + k) h) } ∷ xs)
        (go_on (cend opened k) ws (close cs buffer') [] fit.codes
        (pass1 (eqb (length cs) ((net.parties - 1) * m) && eqb (length buffer') m) (are_codes net.size cs) 15 16
        (and_from _ _ (eq-eqb (length cs) ((net.parties - 1) * m) outputs_count) (eq-eqb (length buffer') m lb')) (codes_are G net same cs outputs_codes))
        ∙ ap (λ x. record { answer = number (L + m); buffer = x } ∷ []) (results (cend opened k) ws (λ w l. fit.below w (omega arith)))))

    takes_it : (P : Place) → P.control.phase ≡ empty → refusal net h P.control (stock (part net h d)) ≡ 0
    unfolding refusal
    takes_it P e =
        pass2 (is empty P.control.phase) (eqb (length B) (part_length net h)) (are_codes net.size B) 12 15 16 (ap (is empty) e)
        (eq-eqb (length B) (part_length net h) (part_length_lem G net h own_party d ok)) (codes_are G net same B b_codes)

    stocked_is : stocked net ≡ cin 0
    stocked_is =
        let e : inputs net ≡ inputs net - 0 = omega arith in
        let b : false ≡ eqb (inputs net - 0) 0 = sym (ne_eqb (inputs net - 0) 0 (λ e. let z = valid.counted.0 in absurd (omega arith))) in
        ap₂ (λ (t : Bool) (n : ℕ). record { phase = cond t walking gathering; given = replicate n false; gate = 0; shares = 0 }) b e

    full_is : cin (inputs net) ≡ crun 0 0
    full_is =
        ap (λ (t : Bool). record { phase = cond t walking gathering; given = (cin (inputs net)).given; gate = 0; shares = 0 }) (eq-eqb (inputs net - inputs net) 0 (omega arith))

    -- from an empty place
    empty_path : (P : Place) → P.control.phase ≡ empty → play G net h P (honest_calls G net h d values buffer buffer') ≡ honest_seen G net h d values
    unfolding play
    empty_path P e =
        let calls = flat_map (look_calls G net h d values) (range_with_len 0 (look_total net)) in
        let seens = flat_map (look_seen G net h d values) (range_with_len 0 (look_total net)) in
        let rest = calls ++ last_calls net h d buffer buffer' in
        let all = each (inputs net) (input_call G net h d values) ++ rest in
        let zeros : List ℕ = replicate (wires net) 0 in
        let ins = all_inputs (inputs net) 0 zeros (omega arith)
        (record { long' = length-replicate (wires net) 0; codes' = codes_zeros G laws (wires net); below = λ w l. absurd (omega arith) }) in
        let u = ins.upto in
        let b : Before 0
        = record {
          gate = 0;
          wires' = ins.wires';
          fit = record { long = u.long'; codes = u.codes'; below = λ w l. u.below w (omega arith) };
          inside = omega arith;
          ord = refl;
          start = omega arith;
        } in
        let looked = all_looks (look_total net) 0 (omega arith) b in
        ap (λ (r : Reply). seen_of r ∷ play G net h r.place all) (sym (acts_is G net h P (stock B)) ∙ act_accepted G net h P (stock B) (takes_it P e) refl)
        ∙ ap (λ xs. plain (number 0) ∷ xs)
        (ap (λ c. play G net h (mk c B zeros) all) stocked_is ∙ ins.path rest
        ∙ ap (λ xs. each (inputs net) (input_seen G net h d values) ++ xs)
        (ap (λ c. play G net h (mk c B ins.wires') rest) full_is ∙ looked.path (last_calls net h d buffer buffer')
        ∙ ap (λ xs. seens ++ xs) (last_path looked.end)))

-- INSTALL's own circuit has its counts
same_counts_lem : (G : Group) (net : Net) → G.size ≡ net.size → (h K : ℕ) → same_counts G.size net (installed net h K) ≡ true
same_counts_lem G net same h K =
    let size = eq-eqb net.size G.size (sym same) in
    let a = eq-eqb net.parties net.parties refl in
    let b = eq-eqb (inputs net) (inputs net) refl in
    let c = eq-eqb (length net.gates) (length net.gates) refl in
    let e = eq-eqb (look_total net) (look_total net) refl in
    let f = eq-eqb (length net.outputs) (length net.outputs) refl in
    let g = eq-eqb (owned h net.owners) (owned h net.owners) refl in
    and_from _ _ (and_from _ _ (and_from _ _ (and_from _ _ (and_from _ _ (and_from _ _ size a) b) c) e) f) g

pub honest : Honest
honest G laws net valid same h own_party K p there shelf room d ok values long codes buffer buffer' lb lb' =
    let at_p : get_or (replicate K (blank net)) p nowhere ≡ blank net = get_or-replicate K p (blank net) nowhere there in
    let D = installed net h K in
    let phase : (get_or (replicate K (blank net)) p nowhere).phase ≡ empty = ap (λ (c : Control). c.phase) at_p in
    plays G net D (same_counts_lem G net same h K) p (honest_calls G net h d values buffer buffer') (replicate K (blank net)) shelf (rw (length-replicate K (blank net)) there)
    (rw (length-replicate K (blank net)) room) (λ w. let q : empty ≡ waiting = sym phase ∙ w in let z : ◌≡◌ {A = ℕ} 0 1 = cc in absurd (omega arith))
    ∙ empty_path G laws net valid same h own_party d ok values long codes buffer buffer' lb lb' (place_of net D shelf p) phase
