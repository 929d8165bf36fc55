-- What a dealer hands out for one evaluation of a circuit.
use Rattle.std.specs.Prelude.{◌≡◌, ℕ, ◌+◌, ◌-◌, ◌*◌, ◌/◌, ◌%◌, ◌<◌, cond, List, [], ◌∷◌, ◌++◌, map, length, take, drop, ◌==◌, nat_lt, slice_index_or}
use Rattle.groups.specs.Group.{Group, Codes, sub}
use Rattle.groups.specs.Total.{total}
use Rattle.model.specs.Words.{at, each, tally}
use Rattle.model.specs.Net.{Net, Lookup, Rules, inputs, entry, look_total, lookup_at, flow}

-- The masks of the input wires and of the LOOK results, and each party's block of shares.
pub record Deal : Type 0 where
  pub inputs : List ℕ
  pub looks : List ℕ
  pub shares : List (List ℕ)

-- masks flow as values do, but a SHIFT keeps its operand's mask, and a LOOK has the mask that was dealt for it
abbrev pub masking : List ℕ → Rules
masking looks = record { shift = λ c m. m; look = λ l f t m. at looks l }

-- the mask of each wire
unfoldable pub masks : Group → Net → Deal → List ℕ
masks G net d = flow G net (masking d.looks) d.inputs

-- how many cells a block has, q for each LOOK gate, and how many numbers with the output shares
abbrev pub cells : Net → ℕ
cells net = look_total net * net.size

abbrev pub columns : Net → ℕ
columns net = cells net + length net.outputs

-- what the masked table of a LOOK gate has at j, m being the masks: T(j - s) + o
abbrev pub cell : Group → Net → List ℕ → Lookup → ℕ → ℕ
cell G net m k j = G.add (entry net k.table (sub G j (at m k.operand))) (at m k.wire)

-- what the parties' shares of a column come to: the masked tables, then the outputs' masks
abbrev pub owed_at : Group → Net → List ℕ → ℕ → ℕ
owed_at G net m k =
    cond (nat_lt k (cells net)) (cell G net m (lookup_at net (k / net.size)) (k % net.size)) (at m (at net.outputs (k - cells net)))

unfoldable pub owed : Group → Net → List ℕ → List ℕ
owed G net m = each (columns net) (owed_at G net m)

-- the shares of one column, a party's each
abbrev pub column : List (List ℕ) → ℕ → List ℕ
column blocks k = map (λ b. at b k) blocks

-- the block of party p
abbrev pub block : List (List ℕ) → ℕ → List ℕ
block shares p = slice_index_or shares p []

-- the blocks of all parties but p
abbrev pub others : ℕ → List (List ℕ) → List (List ℕ)
others p shares = take p shares ++ drop (p + 1) shares

-- A deal is lawful when its numbers are codes, as many as there should be, and the shares of every column add to what is owed.
pub record Lawful (G : Group) (net : Net) (d : Deal) : Type 0 where
  pub inputs_length : length d.inputs ≡ inputs net
  pub inputs_codes : Codes G d.inputs
  pub looks_length : length d.looks ≡ look_total net
  pub looks_codes : Codes G d.looks
  pub shares_length : length d.shares ≡ net.parties
  pub block_length : (p : ℕ) → p < net.parties → length (block d.shares p) ≡ columns net
  pub block_codes : (p : ℕ) → p < net.parties → Codes G (block d.shares p)
  pub sums : (k : ℕ) → k < columns net → total G (column d.shares k) ≡ at (owed G net (masks G net d)) k

-- how many input wires party h owns, and how many of them stand before wire w
abbrev pub owned : ℕ → List ℕ → ℕ
owned h owners = tally (λ o. o == h) owners

-- the masks of the input wires that h owns, in order
unfoldable pub own_masks : ℕ → List ℕ → List ℕ → List ℕ
own_masks h [] ms = []
own_masks h (o ∷ os) [] = []
own_masks h (o ∷ os) (m ∷ ms) = cond (o == h) (m ∷ own_masks h os ms) (own_masks h os ms)

-- the part of party h: its own input masks, then its block
unfoldable pub part : Net → ℕ → Deal → List ℕ
part net h d = own_masks h net.owners d.inputs ++ block d.shares h

abbrev pub part_length : Net → ℕ → ℕ
part_length net h = owned h net.owners + columns net
