-- A circuit, as a net of wires and gates, and the one way in which numbers flow along its wires.
use Rattle.std.specs.Prelude.{◌≡◌, ℕ, ◌+◌, ◌*◌, ◌/◌, ◌<◌, ◌≤◌, Bool, true, false, List, [], ◌∷◌, ◌++◌, length, take, drop, slice_index_or}
use Rattle.groups.specs.Group.{Group}
use Rattle.model.specs.Words.{at, Below, mark, tally}

-- A gate's first operand is a wire. Its second is a wire (ADD), a code (SHIFT), the number of a row (MAP) or of a table (LOOK).
pub data Gate : Type 0 where
  adds shifts maps looks : ℕ → ℕ → Gate

-- The party of each input wire; all tables one after another, `size` codes each; all rows, eight codes each; the gates in
-- order; the wires that are put out. The inputs are the first wires, and gate k writes wire I + k.
pub record Net : Type 0 where
  pub size : ℕ
  pub parties : ℕ
  pub owners : List ℕ
  pub tables : List ℕ
  pub rows : List ℕ
  pub gates : List Gate
  pub outputs : List ℕ

-- I, the number of input wires
abbrev pub inputs : Net → ℕ
inputs net = length net.owners

-- I + G, the number of all wires
abbrev pub wires : Net → ℕ
wires net = inputs net + length net.gates

-- gate k
abbrev pub gate_at : Net → ℕ → Gate
gate_at net k = slice_index_or net.gates k (adds 0 0)

abbrev pub is_look : Gate → Bool
is_look (adds f s) = false
is_look (shifts f s) = false
is_look (maps f s) = false
is_look (looks f s) = true

-- the number of LOOK gates in a list
abbrev pub look_count : List Gate → ℕ
look_count gs = tally is_look gs

-- the number of tables, and of rows
abbrev pub table_count : Net → ℕ
table_count net = length net.tables / net.size

abbrev pub row_count : Net → ℕ
row_count net = length net.rows / 8

-- row r
abbrev pub row : Net → ℕ → List ℕ
row net r = take 8 (drop (8 * r) net.rows)

-- what table t has at x
abbrev pub entry : Net → ℕ → ℕ → ℕ
entry net t x = at net.tables (t * net.size + x)

-- the two operands of a gate
abbrev pub first_of : Gate → ℕ
first_of (adds f s) = f
first_of (shifts f s) = f
first_of (maps f s) = f
first_of (looks f s) = f

abbrev pub second_of : Gate → ℕ
second_of (adds f s) = s
second_of (shifts f s) = s
second_of (maps f s) = s
second_of (looks f s) = s

-- what the second operand of a gate that writes wire w has to be below, in a circuit of q codes, r rows and t tables
abbrev pub limit : ℕ → ℕ → ℕ → ℕ → Gate → ℕ
limit q r t w (adds f s) = w
limit q r t w (shifts f s) = q
limit q r t w (maps f s) = r
limit q r t w (looks f s) = t

-- 2 to 256 codes, 2 to 8 parties
abbrev pub Sized : Net → Type 0
Sized net = (2 ≤ net.size) × (net.size ≤ 256) × (2 ≤ net.parties) × (net.parties ≤ 8)

-- 1 to 160 inputs, up to 4,096 gates, 1 to 64 outputs
abbrev pub Counted : Net → Type 0
Counted net = (1 ≤ inputs net) × (inputs net ≤ 160) × (length net.gates ≤ 4096) × (1 ≤ length net.outputs) × (length net.outputs ≤ 64)

-- whole tables, up to 16, and whole rows, up to 64
abbrev pub Whole : Net → Type 0
Whole net =
    (length net.tables ≡ table_count net * net.size) × (table_count net ≤ 16) × (length net.rows ≡ 8 * row_count net) × (row_count net ≤ 64)

-- tables and rows hold codes
abbrev pub Coded : Net → Type 0
Coded net = Below net.size net.tables × Below net.size net.rows

-- owners are parties, and outputs are wires
abbrev pub Named : Net → Type 0
Named net = Below net.parties net.owners × Below (wires net) net.outputs

-- every gate reads earlier wires alone, and the code, row or table that it names is one
abbrev pub Wired : Net → Type 0
Wired net =
    (k : ℕ) → k < length net.gates
    → (first_of (gate_at net k) < inputs net + k)
    × (second_of (gate_at net k) < limit net.size (row_count net) (table_count net) (inputs net + k) (gate_at net k))

-- at most 240 LOOK gates
abbrev pub Few : Net → Type 0
Few net = look_count net.gates ≤ 240

-- A net that a circuit may be.
pub record Valid (net : Net) : Type 0 where
  pub sized : Sized net
  pub counted : Counted net
  pub whole : Whole net
  pub coded : Coded net
  pub named : Named net
  pub wired : Wired net
  pub few : Few net

-- A LOOK gate: its wire, its operand, its table.
pub record Lookup : Type 0 where
  pub wire : ℕ
  pub operand : ℕ
  pub table : ℕ

-- the LOOK gates in order, the first gate writing wire w
unfoldable pub lookups_from : ℕ → List Gate → List Lookup
lookups_from w [] = []
lookups_from w (adds f s ∷ gs) = lookups_from (w + 1) gs
lookups_from w (shifts f c ∷ gs) = lookups_from (w + 1) gs
lookups_from w (maps f r ∷ gs) = lookups_from (w + 1) gs
lookups_from w (looks f t ∷ gs) = record { wire = w; operand = f; table = t } ∷ lookups_from (w + 1) gs

abbrev pub lookups : Net → List Lookup
lookups net = lookups_from (inputs net) net.gates

-- the LOOK gate before which l others stand
abbrev pub lookup_at : Net → ℕ → Lookup
lookup_at net l = slice_index_or (lookups net) l (record { wire = 0; operand = 0; table = 0 })

-- L, the number of LOOK gates, and how many of them stand before gate k
abbrev pub look_total : Net → ℕ
look_total net = look_count net.gates

abbrev pub ordinal : Net → ℕ → ℕ
ordinal net k = look_count (take k net.gates)

-- What a flow does at a SHIFT (constant, operand's number) and at a LOOK (how many LOOK gates came before, operand, table,
-- operand's number). Everywhere an ADD adds, and a MAP applies its row.
pub record Rules : Type 0 where
  pub shift : ℕ → ℕ → ℕ
  pub look : ℕ → ℕ → ℕ → ℕ → ℕ

-- the number that a gate gives its wire, l LOOK gates having come before
abbrev pub step : Group → Net → Rules → ℕ → List ℕ → Gate → ℕ
step G net r l ws (adds f s) = G.add (at ws f) (at ws s)
step G net r l ws (shifts f c) = r.shift c (at ws f)
step G net r l ws (maps f m) = G.image (row net m) (at ws f)
step G net r l ws (looks f t) = r.look l f t (at ws f)

-- the wires that the gates add to those that are known, one a gate
unfoldable pub grow : Group → Net → Rules → ℕ → List ℕ → List Gate → List ℕ
grow G net r l ws [] = ws
grow G net r l ws (g ∷ gs) = grow G net r (l + mark (is_look g)) (ws ++ step G net r l ws g ∷ []) gs

-- a number for each wire, from those of the inputs
abbrev pub flow : Group → Net → Rules → List ℕ → List ℕ
flow G net r given = grow G net r 0 given net.gates
