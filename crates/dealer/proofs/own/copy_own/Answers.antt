use Rattle.std.proofs.Common.{◌+◌, ◌<◌, ◌++◌, length, take, drop, sym, ap, ◌∙◌, ap₂, arith}
use Rattle.std.proofs.lemmas.List.{take_all}
use Rattle.model.specs.Deal.{owned, own_masks}
use Rattle.dealer.proofs.Owned.{owned_yes, owned_no, owned_below, copied_yes, copied_no, copied_all}
use Rattle.dealer.proofs.own.copy_own.Goals as goal
use Rattle.dealer.proofs.own.copy_own.Goals.{then-owner-party, else-owner-party}

pub bounds-part-slot : goal.bounds-part-slot
bounds-part-slot c =
    let b = owned_below c.args.party c.args.owners.now c.loop-i.i c.loop-i-test.true c.if-owner-party.true in
    omega (arith, c.requires.room)

pub loop-i-preserved : goal.loop-i-preserved
loop-i-preserved c =
    let h = c.args.party in
    let os = c.args.owners.now in
    let ms = c.args.masks.now in
    let i = c.loop-i.i in
    let in_os = c.loop-i-test.true in
    let in_ms : i < length ms = omega (arith, c.requires.masks) in
    let all = own_masks h os ms in
    let left = own_masks h (drop (i + 1) os) (drop (i + 1) ms) in
    elim c.if-owner-party.branch [
      | then-owner-party w ↦
          let own = w.if-owner-party.true in
          let more = owned_yes h os i in_os own in
          let below = owned_below h os i in_os own in
          let room : c.loop-i.slot < length c.loop-i.part = omega (arith, c.requires.room) in (
            omega (arith, w.slot-is),
            omega (arith, w.slot-is),
            ap₂ (λ n xs. take n xs ++ left) w.slot-is w.part-is ∙ copied_yes h os ms i in_os in_ms c.loop-i.part all c.loop-i.slot room own c.loop-i.invariant.2,
          )
      | else-owner-party w ↦
          let other = w.if-owner-party.false in
          let more = owned_no h os i in_os other in (
            omega (arith, w.slot-is),
            omega (arith, w.slot-is),
            ap₂ (λ n xs. take n xs ++ left) w.slot-is w.part-is ∙ copied_no h os ms i in_os in_ms c.loop-i.part all c.loop-i.slot other c.loop-i.invariant.2,
          )
    ]

pub returns : goal.returns
returns c =
    let h = c.args.party in
    let os = c.args.owners.now in
    let i = c.loop-i.i in
    let count = c.loop-i.invariant.0 ∙ ap (owned h) (take_all i os c.loop-i-test.false) in
    ap (λ n. take n c.loop-i.part) (sym count) ∙ copied_all h os c.args.masks.now i c.loop-i.part _ c.loop-i.slot c.loop-i-test.false c.loop-i.invariant.2
