-- Tapes of codes and lawful deals are one to one.
use Rattle.std.proofs.Common.{◌≡◌, ℕ, zero, suc, ◌+◌, ◌-◌, ◌*◌, ◌<◌, ◌≤◌, List, [], ◌∷◌, ◌++◌, length, take, drop, sym, refl, ap, ◌∙◌, subst, ap₂, suc-mul, zero-mul, arith}
use Rattle.std.specs.List.{flat_map}
use Rattle.std.proofs.lemmas.List.{get_or-take, length-append, length-drop, length-take-le, take-append-drop, take_at, drop_at, take_all, ext_get_or, take_more, length_push, nil_from_length}
use Rattle.groups.specs.Group.{Group, Laws, Codes, sub}
use Rattle.groups.specs.Total.{total}
use Rattle.groups.proofs.Derived.{algebra}
use Rattle.groups.specs.Kept.{codes_take, codes_append}
use Rattle.model.specs.Words.{at, each}
use Rattle.model.specs.Net.{Net, Valid, inputs, look_total}
use Rattle.model.specs.Deal.{Deal, Lawful, masks, owed, columns, column, block}
use Rattle.model.specs.Tape.{pieces, completed, deal_of, tape_of, Tape, OneToOne}
use Rattle.model.proofs.Listed.{at_each, length_each, codes_each, code_at, codes_drop}
use Rattle.model.proofs.Sums.{Blocks, blocks_append, blocks_one, column_code, column_push}
use Rattle.model.proofs.Masks.{masks_by, masks_code, owed_code}

abbrev together : List (List ℕ) → List ℕ
together bs = flat_map (λ (b : List ℕ). b) bs

pieces_length : (m n : ℕ) (xs : List ℕ) → length (pieces m n xs) ≡ m
unfolding pieces
pieces_length zero n xs = refl
pieces_length (suc m) n xs = ap suc (pieces_length m n (drop n xs))

pieces_block : (m n : ℕ) (xs : List ℕ) (p : ℕ) → m * n ≤ length xs → p < m → length (block (pieces m n xs) p) ≡ n
unfolding pieces
pieces_block zero n xs p l h = absurd (omega arith)
pieces_block (suc m) n xs zero l h = length-take-le n xs (omega (arith, suc-mul m n))
pieces_block (suc m) n xs (suc p) l h = pieces_block m n (drop n xs) p (rw (length-drop n xs) (omega (arith, suc-mul m n))) (omega arith)

together_pieces : (m n : ℕ) (xs : List ℕ) → length xs ≡ m * n → together (pieces m n xs) ≡ xs
unfolding pieces
together_pieces zero n xs e = sym (nil_from_length xs (omega (arith, zero-mul n)))
together_pieces (suc m) n xs e =
    ap (λ ys. take n xs ++ ys) (together_pieces m n (drop n xs) (length-drop n xs ∙ omega (arith, suc-mul m n))) ∙ take-append-drop n xs

pieces_together : (bs : List (List ℕ)) (n : ℕ) → ((p : ℕ) → p < length bs → length (block bs p) ≡ n) → pieces (length bs) n (together bs) ≡ bs
unfolding pieces
pieces_together [] n h = refl
pieces_together (b ∷ bs) n h =
    let e : length b ≡ n = h 0 (omega arith) in
    ap₂ (λ (x : List ℕ) (xs : List (List ℕ)). x ∷ xs) (take_at b (together bs) n e)
    (ap (λ ys. pieces (length bs) n ys) (drop_at b (together bs) n e) ∙ pieces_together bs n (λ p l. h (suc p) (omega arith)))

length_together : (bs : List (List ℕ)) (n : ℕ) → ((p : ℕ) → p < length bs → length (block bs p) ≡ n) → length (together bs) ≡ length bs * n
length_together [] n h = sym (zero-mul n)
length_together (b ∷ bs) n h =
    let e : length b ≡ n = h 0 (omega arith) in
    length-append b (together bs) ∙ omega (arith, length_together bs n (λ p l. h (suc p) (omega arith)), suc-mul (length bs) n)

module _ (G : Group) (laws : Laws G) where
  pieces_codes : (m n : ℕ) (xs : List ℕ) → Codes G xs → Blocks G (pieces m n xs)
  unfolding pieces
  pieces_codes zero n xs c p l = absurd (omega arith)
  pieces_codes (suc m) n xs c zero l = codes_take G n xs c
  pieces_codes (suc m) n xs c (suc p) l = pieces_codes m n (drop n xs) (codes_drop G laws n xs c) p (omega arith)

  codes_together : (bs : List (List ℕ)) → Blocks G bs → Codes G (together bs)
  codes_together [] c k l = absurd (omega arith)
  codes_together (b ∷ bs) c k l = codes_append G b (together bs) (c 0 (omega arith)) (codes_together bs (λ p m. c (suc p) (omega arith))) k l

pushed_length : (bs : List (List ℕ)) (b : List ℕ) (n : ℕ) → ((p : ℕ) → p < length bs → length (block bs p) ≡ n) → length b ≡ n
    → (p : ℕ) → p < length bs + 1 → length (block (bs ++ b ∷ []) p) ≡ n
pushed_length [] b n c e zero l = e
pushed_length [] b n c e (suc p) l = absurd (omega arith)
pushed_length (a ∷ bs) b n c e zero l = c 0 (omega arith)
pushed_length (a ∷ bs) b n c e (suc p) l = pushed_length bs b n (λ q m. c (suc q) (omega arith)) e p (omega arith)

module _ (G : Group) (laws : Laws G) (net : Net) (valid : Valid net) (same : G.size ≡ net.size) where
  abbrev I : ℕ
  I = inputs net

  abbrev L : ℕ
  L = look_total net

  abbrev C : ℕ
  C = columns net

  abbrev N : ℕ
  N = net.parties - 1

  module _ (tape : List ℕ) (t : Tape G net tape) where
    abbrev front : List (List ℕ)
    front = pieces N C (drop L (drop I tape))

    abbrev hidden : Deal
    hidden = record { inputs = take I tape; looks = take L (drop I tape); shares = front }

    rest_long : length (drop L (drop I tape)) ≡ N * C
    rest_long = length-drop L (drop I tape) ∙ rw (length-drop I tape) (omega (arith, t.long))

    inputs_long : length (take I tape) ≡ I
    inputs_long = length-take-le I tape (omega (arith, t.long))

    looks_long : length (take L (drop I tape)) ≡ L
    looks_long = length-take-le L (drop I tape) (rw (length-drop I tape) (omega (arith, t.long)))

    inputs_codes : Codes G (take I tape)
    inputs_codes = codes_take G I tape t.codes

    looks_codes : Codes G (take L (drop I tape))
    looks_codes = codes_take G L (drop I tape) (codes_drop G laws I tape t.codes)

    front_codes : Blocks G front
    front_codes = pieces_codes G laws N C (drop L (drop I tape)) (codes_drop G laws L (drop I tape) (codes_drop G laws I tape t.codes))

    hidden_code : (i : ℕ) → at (masks G net hidden) i < G.size
    hidden_code = masks_code G laws net valid same hidden inputs_long inputs_codes looks_codes

    abbrev last : List ℕ
    last = each C (λ k. sub G (at (owed G net (masks G net hidden)) k) (total G (column front k)))

    last_codes : Codes G last
    last_codes = codes_each G C _ (λ k _. (algebra laws).sub_code _ _ (owed_code G laws net valid same (masks G net hidden) hidden_code k) (column_code G laws front k front_codes))

    pub deals : Lawful G net (deal_of G net tape)
    unfolding deal_of
    deals =
        record {
          inputs_length = inputs_long;
          inputs_codes = inputs_codes;
          looks_length = looks_long;
          looks_codes = looks_codes;
          shares_length = length_push front last ∙ omega (arith, pieces_length N C (drop L (drop I tape)));
          block_length = λ p l. pushed_length front last C
              (λ q m. pieces_block N C (drop L (drop I tape)) q (omega (arith, rest_long)) (rw (pieces_length N C (drop L (drop I tape))) at m)) (length_each C _) p
              (omega (arith, pieces_length N C (drop L (drop I tape))));
          block_codes = λ p l. blocks_append G laws front (last ∷ []) front_codes (blocks_one G laws last last_codes) p (rw (length_push front last) (omega (arith, pieces_length N C (drop L (drop I tape)))));
          sums = λ k l.
              column_push G laws front last k front_codes last_codes
              ∙ ap (λ x. G.add x (total G (column front k))) (at_each C _ k l)
              ∙ (algebra laws).sub_add _ _ (owed_code G laws net valid same (masks G net hidden) hidden_code k) (column_code G laws front k front_codes)
              ∙ ap (λ m. at (owed G net m) k) (masks_by G net hidden (deal_of G net tape) refl refl);
        }

    pub there : tape_of net (deal_of G net tape) ≡ tape
    unfolding deal_of tape_of
    there =
        let f : take N (front ++ last ∷ []) ≡ front = take_at front (last ∷ []) N (pieces_length N C (drop L (drop I tape))) in
        rw (f, together_pieces N C (drop L (drop I tape)) rest_long, take-append-drop L (drop I tape), take-append-drop I tape) refl

  module _ (d : Deal) (ok : Lawful G net d) where
    abbrev front' : List (List ℕ)
    front' = take N d.shares

    front_length : length front' ≡ N
    front_length = length-take-le N d.shares (rw ok.shares_length (omega arith))

    front_block : (p : ℕ) → p < length front' → length (block front' p) ≡ C
    front_block p l =
        let s : p < N = rw front_length at l in
        rw (get_or-take N d.shares p [] s) (ok.block_length p (omega arith))

    front_codes' : Blocks G front'
    front_codes' p l =
        let s : p < N = rw front_length at l in
        subst (λ (b : List ℕ). Codes G b) (sym (get_or-take N d.shares p [] s)) (ok.block_codes p (omega arith))

    pub tapes : Tape G net (tape_of net d)
    unfolding tape_of
    tapes =
        record {
          long =
              length-append d.inputs (d.looks ++ together front')
              ∙ omega (arith, length-append d.looks (together front'), ok.inputs_length, ok.looks_length, length_together front' C front_block, ap (λ n. n * C) front_length);
          codes = codes_append G _ _ ok.inputs_codes (codes_append G _ _ ok.looks_codes (codes_together G laws front' front_codes'));
        }

    abbrev tape : List ℕ
    tape = tape_of net d

    inputs_back : take I tape ≡ d.inputs
    unfolding tape_of
    inputs_back = take_at d.inputs _ I ok.inputs_length

    rest_back : drop I tape ≡ d.looks ++ together front'
    unfolding tape_of
    rest_back = drop_at d.inputs _ I ok.inputs_length

    looks_back : take L (drop I tape) ≡ d.looks
    looks_back = rw rest_back (take_at d.looks (together front') L ok.looks_length)

    front_back : pieces N C (drop L (drop I tape)) ≡ front'
    front_back =
        rw (rest_back, drop_at d.looks (together front') L ok.looks_length)
        (subst (λ (n : ℕ). pieces n C (together front') ≡ front') front_length (pieces_together front' C front_block))

    shares_split : d.shares ≡ front' ++ block d.shares N ∷ []
    shares_split =
        let l : N < length d.shares = rw ok.shares_length (omega arith) in
        let e : N + 1 ≡ net.parties = omega arith in
        sym (take_all (N + 1) d.shares (rw ok.shares_length (omega arith))) ∙ take_more d.shares N [] l

    last_back : each C (λ k. sub G (at (owed G net (masks G net d)) k) (total G (column front' k))) ≡ block d.shares N
    last_back =
        ext_get_or 0 _ (block d.shares N) (length_each C _ ∙ sym (ok.block_length N (omega arith)))
        (λ k l.
        let s : k < C = rw (length_each C (λ k. sub G (at (owed G net (masks G net d)) k) (total G (column front' k)))) at l in
        let b = block d.shares N in
        let c : Codes G b = ok.block_codes N (omega arith) in
        let a : at (each C (λ k. sub G (at (owed G net (masks G net d)) k) (total G (column front' k)))) k ≡ sub G (at (owed G net (masks G net d)) k) (total G (column front' k))
        = at_each C (λ k. sub G (at (owed G net (masks G net d)) k) (total G (column front' k))) k s in
        let p : at (owed G net (masks G net d)) k ≡ G.add (at b k) (total G (column front' k))
        = sym (ok.sums k s) ∙ ap (λ bs. total G (column bs k)) shares_split ∙ column_push G laws front' b k front_codes' c in
        a ∙ ap (λ x. sub G x (total G (column front' k))) p
        ∙ (algebra laws).add_sub (at b k) (total G (column front' k)) (code_at G laws b c k) (column_code G laws front' k front_codes'))

    pub back : deal_of G net (tape_of net d) ≡ d
    unfolding deal_of
    back =
        let e : completed G net (take I tape) (take L (drop I tape)) (pieces N C (drop L (drop I tape))) ≡ completed G net d.inputs d.looks front'
        = λ i. completed G net (inputs_back i) (looks_back i) (front_back i) in
        let m : masks G net (record { inputs = d.inputs; looks = d.looks; shares = front' }) ≡ masks G net d = masks_by G net _ d refl refl in
        let s : (completed G net d.inputs d.looks front').shares ≡ d.shares
        = ap (λ ms. front' ++ each C (λ k. sub G (at (owed G net ms) k) (total G (column front' k))) ∷ []) m
        ∙ ap (λ b. front' ++ b ∷ []) last_back ∙ sym shares_split in
        e ∙ (λ i. record { inputs = d.inputs; looks = d.looks; shares = s i })

pub one_to_one : (G : Group) → Laws G → (net : Net) → Valid net → G.size ≡ net.size → OneToOne G net
one_to_one G laws net valid same =
    record { deals = deals G laws net valid same; tapes = tapes G laws net valid same; there = there G laws net valid same; back = back G laws net valid same }
