-- The deal of a tape, as it is computed.
use Rattle.std.proofs.Common.{◌≡◌, ℕ, ◌+◌, ◌-◌, ◌<◌, List, [], ◌++◌, length, get_or, take, drop, sym, refl, ap, ◌∙◌, subst, arith}
use borrow.Rule.Slice.PartMut.{put_mid}
use Rattle.std.proofs.lemmas.List.{append-nil, drop_all, length-drop, length-take-le, get_or-take, get_or-drop, ext_get_or}
use Rattle.groups.specs.Group.{Group, Laws}
use Rattle.model.specs.Words.{at, Below}
use Rattle.model.specs.Net.{Net, Valid, inputs, look_total, flow}
use Rattle.model.specs.Deal.{Lawful, masking, masks, own_masks, part}
use Rattle.model.specs.Tape.{deal_of}
use Rattle.model.proofs.Masks.{masks_by, mask_code, masks_length, mask_input}
use Rattle.model.proofs.Tapes.{one_to_one}
use Rattle.model.proofs.Wires.{codes_of}
use Rattle.dealer.specs.Parts.{Ready, blocks}

-- the end of a list
pub below_drop : (q n : ℕ) (xs : List ℕ) → Below q xs → Below q (drop n xs)
below_drop q n xs c k l = subst (λ x. x < q) (sym (get_or-drop n xs k 0)) (c (n + k) (omega (arith, length-drop n xs)))

module _ (G : Group) (net : Net) (tape : List ℕ) where
  pub masks_dealt : masks G net (deal_of G net tape) ≡ flow G net (masking (take (look_total net) (drop (inputs net) tape))) (take (inputs net) tape)
  unfolding masks deal_of
  masks_dealt = refl

  pub part_dealt : (h : ℕ) → part net h (deal_of G net tape)
      ≡ own_masks h net.owners (take (inputs net) tape) ++ get_or (blocks G net (masks G net (deal_of G net tape)) (drop (look_total net) (drop (inputs net) tape))) h []
  unfolding part deal_of
  part_dealt h =
      ap (λ m. own_masks h net.owners (take (inputs net) tape) ++ get_or (blocks G net m (drop (look_total net) (drop (inputs net) tape))) h []) (masks_by G net _ (deal_of G net tape) refl refl)

  module _ (laws : Laws G) (valid : Valid net) (h n m : ℕ) (ready : Ready G net tape h n m) where
    pub dealt_lawful : Lawful G net (deal_of G net tape)
    dealt_lawful =
        (one_to_one G laws net valid ready.size).deals tape (record { long = ready.given; codes = codes_of G laws net valid ready.size tape ready.codes })

    pub masks_below : (ms : List ℕ) → ms ≡ masks G net (deal_of G net tape) → Below net.size ms
    masks_below ms is k _ =
        let code = mask_code G laws net valid ready.size (deal_of G net tape) dealt_lawful k in
        let here = ap (λ xs. at xs k) is in
        omega (arith, ready.size)

    -- the inputs' masks, which the tape begins with
    pub masks_front : take (inputs net) (masks G net (deal_of G net tape)) ≡ take (inputs net) tape
    unfolding deal_of
    masks_front =
        let d = deal_of G net tape in
        let given : length (take (inputs net) tape) ≡ inputs net = length-take-le (inputs net) tape (omega (arith, ready.given)) in
        let long : length (take (inputs net) (masks G net d)) ≡ inputs net = length-take-le (inputs net) (masks G net d) (omega (arith, masks_length G net valid d given)) in
        ext_get_or 0 (take (inputs net) (masks G net d)) (take (inputs net) tape) (long ∙ sym given)
        (λ i l.
        let within : i < inputs net = omega arith in
        get_or-take (inputs net) (masks G net d) i 0 within ∙ mask_input G net valid d given i within)

-- what a write to the end of a list leaves
pub put_end : (a : ℕ) (xs ys : List ℕ) → put_mid a (length xs - a) xs ys ≡ take a xs ++ ys
put_end a xs ys =
    ap (λ r. take a xs ++ (ys ++ r)) (drop_all (length xs - a) (drop a xs) (omega (arith, length-drop a xs))) ∙ ap (λ r. take a xs ++ r) (append-nil ys)
