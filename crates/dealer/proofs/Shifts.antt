-- Parts that move with the masks.
use Rattle.std.proofs.Common.{◌≡◌, ℕ, ◌+◌, ◌-◌, ◌/◌, ◌%◌, ◌<◌, ◌≤◌, List, ◌++◌, length, take, drop, sym, ap, ◌∙◌, ap₂, arith}
use borrow.Rule.Slice.PartMut.{put_mid}
use Rattle.groups.specs.Group.{Group, Laws, sub}
use Rattle.model.specs.Words.{at, each, Below}
use Rattle.model.specs.Net.{Net, lookup_at}
use Rattle.model.specs.Deal.{cells, columns, cell, owned, own_masks}
use Rattle.model.specs.Shifted.{moved_masks, shifted_share, shifted_part}
use Rattle.model.proofs.Listed.{at_each}
use Rattle.dealer.proofs.Places.{each_same, at_piece}
use Rattle.dealer.proofs.Tables.{owed_cell, owed_output, block_written}

module _ (G : Group) (ms ds : List ℕ) where
  -- the moved mask of a wire
  pub moved_at : (w : ℕ) → w < length ms → at (moved_masks G ms ds) w ≡ G.add (at ms w) (at ds w)
  moved_at w l = at_each (length ms) _ w l

  pub moved_code : Laws G → (q : ℕ) → G.size ≡ q → Below q ms → Below q ds → length ds ≡ length ms → (w : ℕ) → w < length ms → G.add (at ms w) (at ds w) < q
  moved_code laws q same cm cd long w l =
      let a = cm w l in
      let b = cd w (omega arith) in
      let c = laws.add_code (at ms w) (at ds w) (omega arith) (omega arith) in
      omega arith

  module _ (net : Net) where
    abbrev shifted : List ℕ → ℕ → ℕ
    shifted was k = shifted_share G net ms ds (at was k) k

    -- the shifted cells, and then the shifted shares of the outputs
    pub block_shifted : (was shares block outs : List ℕ) (start : ℕ) → start ≡ cells net → length block ≡ columns net → length (put_mid start (length block - start) block outs) ≡ columns net
        → was ≡ shares
        → ((k : ℕ) → k < cells net → at block k ≡ G.add (at was k) (sub G (cell G net (moved_masks G ms ds) (lookup_at net (k / net.size)) (k % net.size)) (cell G net ms (lookup_at net (k / net.size)) (k % net.size))))
        → ((k : ℕ) → cells net ≤ k → at block k ≡ at was k)
        → outs ≡ each (length net.outputs) (λ i. G.add (at (take (length block - start) (drop start block)) i) (sub G (at (moved_masks G ms ds) (at net.outputs i)) (at ms (at net.outputs i))))
        → put_mid start (length block - start) block outs ≡ each (columns net) (shifted shares)
    block_shifted was shares block outs start is wide long same done left value =
        let moved = moved_masks G ms ds in
        block_written net (λ k share. shifted_share G net ms ds share k) was block outs start is wide long
        (λ k l. done k l ∙ ap (G.add (at was k)) (ap₂ (sub G) (sym (owed_cell G net moved k l)) (sym (owed_cell G net ms k l)))) left
        (value ∙ each_same (length net.outputs) _ _ (λ i h. ap (G.add (at (take (length block - start) (drop start block)) i)) (ap₂ (sub G) (sym (owed_output G net moved i)) (sym (owed_output G net ms i)))))
        ∙ ap (λ xs. each (columns net) (shifted xs)) same

  -- the own masks, and then the block
  pub part_shifted : (net : Net) (h : ℕ) (part mine front block : List ℕ) (own n : ℕ) → own ≡ owned h net.owners → n ≡ columns net
      → mine ≡ own_masks h net.owners ds → length mine ≡ own
      → front ≡ each (length mine) (λ i. G.add (at part i) (at mine i))
      → block ≡ each (columns net) (λ k. shifted_share G net ms ds (at (take n (drop own part)) k) k)
      → front ++ block ≡ shifted_part G net h ms ds part
  unfolding shifted_part
  part_shifted net h part mine front block own n count size is long a b =
      ap₂ (λ xs ys. xs ++ ys)
      (a ∙ ap₂ (λ m xs. each m (λ i. G.add (at part i) (at xs i))) (long ∙ count) is)
      (b ∙ each_same (columns net) _ _ (λ k l. ap (λ x. shifted_share G net ms ds x k) (at_piece n own part k (omega arith) ∙ ap (λ m. at part (m + k)) count)))
