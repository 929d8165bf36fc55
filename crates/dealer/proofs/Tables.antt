-- The cells of LOOK gates, and what is owed at them.
use Rattle.std.proofs.Common.{◌≡◌, ℕ, suc, ◌+◌, ◌-◌, ◌*◌, ◌/◌, ◌%◌, ◌<◌, ◌≤◌, ltb, List, [], ◌∷◌, length, take, drop, sym, ap, ◌∙◌, subst, ap₂, suc-mul, arith}
use borrow.Rule.Slice.PartMut.{put_mid}
use Rattle.std.proofs.lemmas.Nat.{mul-le, div-mul-add, mod-mul-add}
use Rattle.std.proofs.lemmas.Bool.{lt-ltb, le-ltb, cond-true, cond-false}
use Rattle.groups.specs.Group.{Group, sub}
use Rattle.model.specs.Words.{at, each}
use Rattle.model.specs.Net.{Net, Lookup, Valid, look_total, lookups, lookup_at}
use Rattle.model.specs.Deal.{cells, columns, cell, owed_at, owed}
use Rattle.circuits.proofs.Looked.{look_wired, look_turn, look_end}
use Rattle.dealer.specs.Looks.{Within}
use Rattle.model.proofs.Listed.{at_each}
use Rattle.dealer.proofs.Places.{Written, written_between, written_at, written_all, each_same}

-- what a loop over the LOOK gates makes of cell k
abbrev pub cell_by : Net → (Lookup → ℕ → ℕ → ℕ) → List ℕ → ℕ → ℕ
cell_by net becomes was k = becomes (lookup_at net (k / net.size)) (k % net.size) (at was k)

-- `l` LOOK gates have had their cells written, and the others are left
pub record Going (net : Net) (becomes : Lookup → ℕ → ℕ → ℕ) (was block : List ℕ) (l : ℕ) (list : List Lookup) : Type 0 where
  pub most : l ≤ look_total net
  pub left : list ≡ drop l (lookups net)
  pub written : Written (cell_by net becomes was) was block (l * net.size)

-- The next LOOK gate is k, of number i, and its cells are `n` from `start` on.
pub record Next (net : Net) (l : ℕ) (i n : ℕ) (k : Lookup) (rest : List Lookup) : Type 0 where
  pub small : l < look_total net
  pub is : k ≡ lookup_at net l
  pub within : Within net k
  pub start : i * n ≡ l * net.size
  pub wide : n ≡ net.size
  pub room : i * n + n ≤ cells net
  pub left : rest ≡ drop (l + 1) (lookups net)

pub look_next : {net circuit : Net} → circuit ≡ net → Valid circuit → {becomes : Lookup → ℕ → ℕ → ℕ} {was block : List ℕ} {l : ℕ} {left : List Lookup} → Going net becomes was block l left
    → (i n : ℕ) (k : Lookup) (rest : List Lookup) → left ≡ k ∷ rest → i ≡ l → n ≡ circuit.size → Next net l i n k rest
look_next {net} same sound {l = l} {left = left} so i n k rest next order size =
    let valid : Valid net = subst Valid same sound in
    let wide : n ≡ net.size = size ∙ ap (λ (m : Net). m.size) same in
    let turn = look_turn net l left so.left k rest next in
    let few : l < look_total net = turn.0 in
    let wired = look_wired net valid l few in
    let it = lookup_at net l in
    let start : i * n ≡ l * net.size = ap₂ (λ x y. x * y) order wide in
    record {
      small = few;
      is = sym turn.1;
      within = subst (Within net) turn.1 (record { wire = wired.wire; operand = omega (arith, wired.wire, wired.operand); table = wired.table });
      start = start;
      wide = wide;
      room = omega (arith, suc-mul l net.size, mul-le (suc l) net.size (look_total net) net.size few (omega arith));
      left = turn.2;
    }

-- none is left
pub all_gone : {net : Net} {becomes : Lookup → ℕ → ℕ → ℕ} {was block : List ℕ} {l : ℕ} {left : List Lookup} → Going net becomes was block l left → left ≡ []
    → Written (cell_by net becomes was) was block (cells net)
all_gone {net} {becomes} {was} {block} {l} {left} so none =
    let all : l ≡ look_total net = omega (arith, so.most, look_end net l left so.left none) in
    subst (λ n. Written (cell_by net becomes was) was block (n * net.size)) all so.written

-- one more
pub going_more : {net : Net} {becomes : Lookup → ℕ → ℕ → ℕ} {was block : List ℕ} {l : ℕ} {left : List Lookup} → Going net becomes was block l left
    → (i n : ℕ) (k : Lookup) (rest : List Lookup) → Next net l i n k rest → cells net ≤ length block → (l' : ℕ) → l' ≡ l + 1
    → (part : List ℕ) → part ≡ each net.size (λ j. becomes k j (at (take ((i * n + n) - i * n) (drop (i * n) block)) j))
    → Going net becomes was (put_mid (i * n) ((i * n + n) - i * n) block part) l' rest
going_more {net} {becomes} {was} {block} {l} so i n k rest next room l' more part value =
    let q = net.size in
    let start = i * n in
    let end = start + n in
    let f = cell_by net becomes was in
    let begun : Written f was block start = subst (Written f was block) (sym next.start) so.written in
    let done = written_between f was block part start end q _ begun (omega (arith, next.wide)) (omega (arith, next.room)) value
    (λ j h.
    let here : start + j ≡ l * q + j = omega (arith, next.start) in
    ap₂ (λ x y. becomes x j y) next.is (written_at f was block start (end - start) j begun (omega (arith, next.wide)))
    ∙ ap₂ (λ x y. becomes (lookup_at net x) y (at was (start + j))) (sym (ap (λ m. m / q) here ∙ div-mul-add l q j h)) (sym (ap (λ m. m % q) here ∙ mod-mul-add l q j h))) in
    let reach : end ≡ l' * q = omega (arith, next.start, next.wide, suc-mul l q, ap (λ m. m * q) more) in
    record {
      most = omega (arith, next.small);
      left = next.left ∙ ap (λ m. drop m (lookups net)) (sym more);
      written = subst (Written f was (put_mid start (end - start) block part)) reach done;
    }

module _ (G : Group) (net : Net) (m : List ℕ) where
  -- what is owed at a cell
  pub owed_cell : (k : ℕ) → k < cells net → owed_at G net m k ≡ cell G net m (lookup_at net (k / net.size)) (k % net.size)
  owed_cell k l = cond-true (ltb k (cells net)) (cell G net m (lookup_at net (k / net.size)) (k % net.size)) (at m (at net.outputs (k - cells net))) (lt-ltb k (cells net) l)

  -- what is owed for output i
  pub owed_output : (i : ℕ) → owed_at G net m (cells net + i) ≡ at m (at net.outputs i)
  owed_output i =
      let k = cells net + i in
      let back : k - cells net ≡ i = omega arith in
      cond-false (ltb k (cells net)) (cell G net m (lookup_at net (k / net.size)) (k % net.size)) (at m (at net.outputs (k - cells net))) (le-ltb k (cells net) (omega arith))
      ∙ ap (λ n. at m (at net.outputs n)) back

-- A block is written, its cells first and then its outputs.
pub block_written : (net : Net) (f : ℕ → ℕ → ℕ) (was block outs : List ℕ) (start : ℕ) → start ≡ cells net → length block ≡ columns net
    → length (put_mid start (length block - start) block outs) ≡ columns net
    → ((k : ℕ) → k < cells net → at block k ≡ f k (at was k)) → ((k : ℕ) → cells net ≤ k → at block k ≡ at was k)
    → outs ≡ each (length net.outputs) (λ i. f (cells net + i) (at (take (length block - start) (drop start block)) i))
    → put_mid start (length block - start) block outs ≡ each (columns net) (λ k. f k (at was k))
block_written net f was block outs start is wide long done left value =
    let to : ℕ → ℕ = λ k. f k (at was k) in
    let begun : Written to was block start = record { done = λ k l. done k (omega arith); left = λ k l. left k (omega arith) } in
    let all = written_between to was block outs start (length block) (length net.outputs) _ begun (omega arith) (omega arith) value
    (λ i h. ap (f (cells net + i)) (written_at to was block start (length block - start) i begun (omega arith)) ∙ ap (λ n. f (n + i) (at was (start + i))) (sym is)) in
    written_all to was _ (length block) (columns net) all long (omega arith)

-- every column less the sum that stands in its place
pub lacking_written : (G : Group) (net : Net) (m was block outs : List ℕ) (start : ℕ) → start ≡ cells net → length block ≡ columns net
    → length (put_mid start (length block - start) block outs) ≡ columns net
    → ((k : ℕ) → k < cells net → at block k ≡ sub G (cell G net m (lookup_at net (k / net.size)) (k % net.size)) (at was k))
    → ((k : ℕ) → cells net ≤ k → at block k ≡ at was k)
    → outs ≡ each (length net.outputs) (λ i. sub G (at m (at net.outputs i)) (at (take (length block - start) (drop start block)) i))
    → put_mid start (length block - start) block outs ≡ each (columns net) (λ k. sub G (at (owed G net m) k) (at was k))
unfolding owed
lacking_written G net m was block outs start is wide long done left value =
    block_written net (λ k. sub G (owed_at G net m k)) was block outs start is wide long
    (λ k l. done k l ∙ ap (λ x. sub G x (at was k)) (sym (owed_cell G net m k l))) left
    (value ∙ each_same (length net.outputs) _ _ (λ i h. ap (λ x. sub G x (at (take (length block - start) (drop start block)) i)) (sym (owed_output G net m i))))
    ∙ each_same (columns net) _ _ (λ k l. ap (λ x. sub G x (at was k)) (sym (at_each (columns net) (owed_at G net m) k l)))
