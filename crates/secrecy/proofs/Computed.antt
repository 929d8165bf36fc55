-- The own part of a shifted deal, from the own part of the deal.
use Rattle.std.proofs.Common.{◌≡◌, ℕ, zero, suc, ◌+◌, ◌<◌, ◌≤◌, Bool, true, false, cond, eqb, List, [], ◌∷◌, ◌++◌, length, sym, refl, ap, ◌∙◌, ap₂, arith}
use Rattle.std.proofs.lemmas.List.{get_or_append_left}
use Rattle.std.proofs.lemmas.List.FromFn.{fill_by_all}
use Rattle.groups.specs.Group.{Group, Laws, sub}
use Rattle.model.specs.Words.{at, each, mark}
use Rattle.model.specs.Net.{Net, Valid, inputs, wires}
use Rattle.model.specs.Deal.{Deal, Lawful, masks, owed_at, columns, block, owned, own_masks, part}
use Rattle.model.specs.Shifted.{moved_masks, shifted_part}
use Rattle.model.proofs.Listed.{length_each}
use Rattle.model.proofs.Wires.{flow_length}
use Rattle.model.proofs.Masks.{masks_length, owed_at_lem, own_length, part_own}
use Rattle.secrecy.specs.Evaluation.{Log, Sane, given_at, between, differing, difference, shift}
use Rattle.secrecy.specs.Computed.{ShiftComputed}
use Rattle.secrecy.proofs.Difference.{difference_is}
use Rattle.secrecy.proofs.Shift as sh

-- own masks that are sums, wire by wire, are sums
own_sum : (G : Group) (h : ℕ) (os ns ms ds : List ℕ) → length ns ≡ length os → length ms ≡ length os → length os ≤ length ds
    → ((w : ℕ) → w < length os → at ns w ≡ G.add (at ms w) (at ds w))
    → (i : ℕ) → i < owned h os → at (own_masks h os ns) i ≡ G.add (at (own_masks h os ms) i) (at (own_masks h os ds) i)
unfolding own_masks
own_sum G h [] ns ms ds a b c e i l = absurd (omega arith)
own_sum G h (o ∷ os) [] ms ds a b c e i l = absurd (omega arith)
own_sum G h (o ∷ os) (n ∷ ns) [] ds a b c e i l = absurd (omega arith)
own_sum G h (o ∷ os) (n ∷ ns) (m ∷ ms) [] a b c e i l = absurd (omega arith)
own_sum G h (o ∷ os) (n ∷ ns) (m ∷ ms) (d ∷ ds) a b c e i l =
    step' (eqb o h) (own_masks h os ns) (own_masks h os ms) (own_masks h os ds) (e 0 (omega arith))
    (own_sum G h os ns ms ds (omega arith) (omega arith) (omega arith) (λ w k. e (suc w) (omega arith))) i l
  where
    step' : (b : Bool) (xs ys zs : List ℕ) → n ≡ G.add m d → ((j : ℕ) → j < owned h os → at xs j ≡ G.add (at ys j) (at zs j))
        → (j : ℕ) → j < mark b + owned h os → at (cond b (n ∷ xs) xs) j ≡ G.add (at (cond b (m ∷ ys) ys) j) (at (cond b (d ∷ zs) zs) j)
    step' true xs ys zs p q zero l = p
    step' true xs ys zs p q (suc j) l = q j (omega arith)
    step' false xs ys zs p q j l = q j (omega arith)

module _ (G : Group) (laws : Laws G) (net : Net) (valid : Valid net) (same : G.size ≡ net.size) (h : ℕ) (own : h < net.parties) (log : Log) (sane : Sane G net h log) (d : Deal) (ok : Lawful G net d) where
  abbrev M : List ℕ
  M = masks G net d

  abbrev D : List ℕ
  D = difference G net h log d

  abbrev e : Deal
  e = shift G net h log d

  abbrev N : List ℕ
  N = masks G net (shift G net h log d)

  ok' : Lawful G net e
  ok' = sh.lawful G laws net valid same h log sane d ok own

  m_length : length M ≡ wires net
  m_length = masks_length G net valid d ok.inputs_length

  n_length : length N ≡ wires net
  n_length = masks_length G net valid e ok'.inputs_length

  d_length : length D ≡ wires net
  d_length = flow_length net valid G (differing G net h log d) (each (inputs net) (λ i. between G (given_at log i))) (length_each (inputs net) _)

  -- the masks of the shifted deal
  moved : N ≡ moved_masks G M D
  moved =
      fill_by_all (λ w. G.add (at M w) (at D w)) N (length M) 0 (n_length ∙ sym m_length)
      (λ w l. let k : w < wires net = omega (arith, m_length) in sh.moved_mask G laws net valid same h log sane d ok w k ∙ ap (G.add (at M w)) (sym (difference_is G laws net valid same h log sane d ok w k)))

  ins_at : (i : ℕ) → i < inputs net → at e.inputs i ≡ G.add (at d.inputs i) (at D i)
  ins_at i l =
      sh.shift_input G laws net valid same h log sane d ok i l ∙ ap (G.add (at d.inputs i)) (sym (difference_is G laws net valid same h log sane d ok i (omega arith)))

  front : own_masks h net.owners e.inputs ≡ each (owned h net.owners) (λ i. G.add (at (part net h d) i) (at (own_masks h net.owners D) i))
  unfolding part
  front =
      let os = net.owners in
      fill_by_all (λ i. G.add (at (part net h d) i) (at (own_masks h os D) i)) (own_masks h os e.inputs) (owned h os) 0 (own_length h os e.inputs ok'.inputs_length)
      (λ i l.
      own_sum G h os e.inputs d.inputs D ok'.inputs_length ok.inputs_length (omega (arith, d_length)) ins_at i l
      ∙ ap (λ x. G.add x (at (own_masks h os D) i))
      (sym (get_or_append_left (own_masks h os d.inputs) (block d.shares h) 0 i (omega (arith, own_length h os d.inputs ok.inputs_length)))))

  back : block e.shares h ≡ each (columns net) (λ k. G.add (at (part net h d) (owned h net.owners + k)) (sub G (owed_at G net (moved_masks G M D) k) (owed_at G net M k)))
  back =
      fill_by_all _ (block e.shares h) (columns net) 0 (ok'.block_length h own)
      (λ k l.
      sh.own_block G laws net valid same h log sane d ok own k l
      ∙ ap₂ G.add (sym (part_own G net h own d ok k)) (ap₂ (sub G) (owed_at_lem G net N k l ∙ ap (λ m. owed_at G net m k) moved) (owed_at_lem G net M k l)))

  whole : part net h e ≡ own_masks h net.owners e.inputs ++ block e.shares h
  unfolding part
  whole = refl

  computed_here : part net h e ≡ shifted_part G net h M D (part net h d)
  unfolding shifted_part
  computed_here = whole ∙ ap₂ (λ xs ys. xs ++ ys) front back

pub computed : ShiftComputed
computed G laws net valid same h own log sane d ok = computed_here G laws net valid same h own log sane d ok
