-- The circuit file as its writer sees it: a net, and bytes between the sections that say nothing. `each bytes xs` has the
-- bytes of each of xs in turn.
use Rattle.std.specs.Prelude.{◌≡◌, ℕ, ◌+◌, ◌/◌, ◌%◌, ◌^◌, ◌<◌, List, [], ◌∷◌, ◌++◌, length, take}
use Rattle.std.specs.List.{flat_map as each}
use Rattle.model.specs.Words.{Below}
use Rattle.model.specs.Net.{Net, Gate, adds, shifts, maps, looks, inputs, table_count, row_count, first_of, second_of}
use Rattle.files.specs.declared.header.Header.{Header}
use Rattle.files.specs.Format.{section, owners_at, tables_at, rows_at, gates_at, outputs_at}

-- The bytes before each section, and those behind the last.
pub record Gaps : Type 0 where
  pub before_owners : List ℕ
  pub before_tables : List ℕ
  pub before_rows : List ℕ
  pub before_gates : List ℕ
  pub before_outputs : List ℕ
  pub after : List ℕ

-- the gaps hold bytes
abbrev pub Bytes : Gaps → Type 0
Bytes gaps =
    Below 256 gaps.before_owners × Below 256 gaps.before_tables × Below 256 gaps.before_rows × Below 256 gaps.before_gates × Below 256 gaps.before_outputs
    × Below 256 gaps.after

-- a number in two bytes, the low byte first
abbrev pub two_bytes : ℕ → List ℕ
two_bytes n = n % 256 ∷ n / 256 % 256 ∷ []

-- a number in four bytes
abbrev pub four_bytes : ℕ → List ℕ
four_bytes n = two_bytes n ++ two_bytes (n / 65536)

-- the byte for ADD, SHIFT, MAP and LOOK
abbrev pub kind_byte : Gate → ℕ
kind_byte (adds f s) = 0
kind_byte (shifts f s) = 1
kind_byte (maps f s) = 2
kind_byte (looks f s) = 3

-- a gate in five bytes: its kind and its operands
abbrev pub gate_bytes : Gate → List ℕ
gate_bytes g = kind_byte g ∷ two_bytes (first_of g) ++ two_bytes (second_of g)

-- q, n, I, G, T, R and O of a net
abbrev pub counts_of : Net → Header
counts_of net =
    record {
      size = net.size;
      parties = net.parties;
      inputs = inputs net;
      gates = length net.gates;
      tables = table_count net;
      rows = row_count net;
      outputs = length net.outputs;
    }

-- the seven counts in the order of the file
abbrev pub in_order : Header → List ℕ
in_order h = h.size ∷ h.parties ∷ h.inputs ∷ h.gates ∷ h.tables ∷ h.rows ∷ h.outputs ∷ []

-- the sections of gates and of outputs
abbrev pub gate_section : Net → List ℕ
gate_section net = each gate_bytes net.gates

abbrev pub output_section : Net → List ℕ
output_section net = each two_bytes net.outputs

-- Where each section begins: 54 bytes of header and directory, then sections and gaps in turn.
abbrev pub owners_start : Net → Gaps → ℕ
owners_start net gaps = 54 + length gaps.before_owners

abbrev pub tables_start : Net → Gaps → ℕ
tables_start net gaps = owners_start net gaps + length net.owners + length gaps.before_tables

abbrev pub rows_start : Net → Gaps → ℕ
rows_start net gaps = tables_start net gaps + length net.tables + length gaps.before_rows

abbrev pub gates_start : Net → Gaps → ℕ
gates_start net gaps = rows_start net gaps + length net.rows + length gaps.before_gates

abbrev pub outputs_start : Net → Gaps → ℕ
outputs_start net gaps = gates_start net gaps + length (gate_section net) + length gaps.before_outputs

-- offset and length of each section
abbrev pub directory : Net → Gaps → List ℕ
directory net gaps =
    owners_start net gaps ∷ length net.owners ∷ tables_start net gaps ∷ length net.tables ∷ rows_start net gaps ∷ length net.rows
    ∷ gates_start net gaps ∷ length (gate_section net) ∷ outputs_start net gaps ∷ length (output_section net) ∷ []

-- the file of a net with these gaps
abbrev pub written : Net → Gaps → List ℕ
written net gaps =
    each two_bytes (in_order (counts_of net)) ++ each four_bytes (directory net gaps)
    ++ gaps.before_owners ++ net.owners
    ++ gaps.before_tables ++ net.tables
    ++ gaps.before_rows ++ net.rows
    ++ gaps.before_gates ++ gate_section net
    ++ gaps.before_outputs ++ output_section net
    ++ gaps.after

-- the last offset fits four bytes, and so do the others, which are smaller
abbrev pub Fits : Net → Gaps → Type 0
Fits net gaps = outputs_start net gaps < 2 ^ 32

-- Two files that agree outside their gaps: in header and directory, and in what each section holds.
pub record Agree (f g : List ℕ) : Type 0 where
  pub front : take 54 f ≡ take 54 g
  pub owners : section f owners_at ≡ section g owners_at
  pub tables : section f tables_at ≡ section g tables_at
  pub rows : section f rows_at ≡ section g rows_at
  pub gates : section f gates_at ≡ section g gates_at
  pub outputs : section f outputs_at ≡ section g outputs_at
