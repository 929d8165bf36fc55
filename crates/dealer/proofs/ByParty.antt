-- The blocks of all parties, by party.
use Rattle.std.proofs.Common.{◌≡◌, ℕ, suc, ◌+◌, ◌-◌, ◌*◌, ◌/◌, ◌<◌, ◌≤◌, List, [], ◌∷◌, length, get_or, take, drop, sym, ap, ◌∙◌, ap₂, suc-mul, arith}
use Rattle.std.proofs.lemmas.List.{get_or_append_left, get_or_push}
use Rattle.std.proofs.lemmas.Nat.{div-mul-add, le-div}
use Rattle.groups.specs.Group.{Group, sub}
use Rattle.groups.specs.Total.{total}
use Rattle.model.specs.Words.{at, each}
use Rattle.model.specs.Net.{Net, Valid}
use Rattle.model.specs.Deal.{columns, column, owed}
use Rattle.model.specs.Tape.{pieces}
use Rattle.dealer.specs.Parts.{last_block, blocks}
use Rattle.model.proofs.Listed.{at_each}
use Rattle.dealer.proofs.Places.{each_same}
use Rattle.dealer.proofs.Pieces.{pieces_length, piece_is, cut}

module _ (G : Group) (net : Net) (m dealt : List ℕ) (p : ℕ) where
  pub block_piece : p + 1 < net.parties → take (columns net) (drop (p * columns net) dealt) ≡ get_or (blocks G net m dealt) p []
  block_piece h =
      let front = pieces (net.parties - 1) (columns net) dealt in
      let early : p < net.parties - 1 = omega arith in
      let there : p < length front = omega (arith, pieces_length (net.parties - 1) (columns net) dealt) in
      sym (get_or_append_left front (last_block G net m front ∷ []) [] p there ∙ piece_is (net.parties - 1) (columns net) dealt p early)

  pub block_last : p + 1 ≡ net.parties → last_block G net m (pieces (net.parties - 1) (columns net) dealt) ≡ get_or (blocks G net m dealt) p []
  block_last h =
      let front = pieces (net.parties - 1) (columns net) dealt in
      sym (get_or_push front (last_block G net m front) [] p (pieces_length (net.parties - 1) (columns net) dealt ∙ omega arith))

  -- the party's piece of what was dealt, which only the last one lacks, as an iterator over the pieces gives them
  module _ (q size : ℕ) (rest : List ℕ) (whole : rest ≡ dealt) (width : size ≡ columns net) (place : q ≡ p) (some : 0 < size) (long : length dealt ≡ (net.parties - 1) * columns net) where
    count : length rest / size ≡ net.parties - 1
    count = ap₂ (λ xs n. length xs / n) whole width ∙ ap (λ n. n / columns net) (long ∙ omega arith) ∙ div-mul-add (net.parties - 1) (columns net) 0 (omega arith)

    pub piece_found : (piece : List ℕ) → q * size + size ≤ length rest → piece ≡ take size (drop (q * size) rest) → piece ≡ get_or (blocks G net m dealt) p []
    piece_found piece room is =
        let early : suc q ≤ length rest / size = le-div (suc q) (length rest) size some (omega (arith, suc-mul q size)) in
        is ∙ ap (λ xs. take size (drop (q * size) xs)) whole ∙ ap₂ (λ n k. take n (drop (k * n) dealt)) width place ∙ block_piece (omega (arith, count))

    pub piece_lacks : p < net.parties → (n : ℕ) → n ≡ length rest / size → n ≤ q → last_block G net m (pieces (net.parties - 1) (columns net) dealt) ≡ get_or (blocks G net m dealt) p []
    piece_lacks party n all few = block_last (omega (arith, count))

-- the block that lacks the sums of the others' pieces is the last one
pub last_lacks : (G : Group) (net : Net) → Valid net → (m dealt sums block : List ℕ) (n : ℕ) → length dealt ≡ (net.parties - 1) * columns net → n ≡ columns net
    → sums ≡ each n (λ k. total G (column (cut n dealt) k)) → block ≡ each (columns net) (λ k. sub G (at (owed G net m) k) (at sums k))
    → block ≡ last_block G net m (pieces (net.parties - 1) (columns net) dealt)
last_lacks G net valid m dealt sums block n long wide summed value =
    let w = columns net in
    let count : length dealt / w ≡ net.parties - 1 = ap (λ k. k / w) (long ∙ omega arith) ∙ div-mul-add (net.parties - 1) w 0 (omega (arith, valid.counted)) in
    value ∙ each_same w _ _ (λ k h.
    ap (sub G (at (owed G net m) k))
    (ap (λ xs. at xs k) (summed ∙ ap (λ i. each i (λ k. total G (column (cut i dealt) k))) wide) ∙ at_each w _ k h ∙ ap (λ c. total G (column (pieces c w dealt) k)) count))
