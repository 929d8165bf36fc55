-- What READ tests, in its order, and how it refuses.
use Rattle.std.specs.Prelude.{ℕ, ◌+◌, ◌*◌, cond, not, ◌&&◌, ◌||◌, List, [], ◌∷◌, length, Some, None, Option, ◌==◌, nat_le, nat_lt}
use Rattle.refusals.specs.declared.Refusal.{Refusal}
use Rattle.refusals.specs.declared.Refusal.TheVariants.{Layout, Limit, Places, Kind, Operand, Code, Absent}
use Rattle.model.specs.Words.{mark}
use Rattle.model.specs.Net.{Gate, adds, shifts, maps, looks, is_look, first_of, second_of, limit}
use Rattle.files.specs.declared.header.Header.{Header}
use Rattle.refusals.specs.Tests.{unless, found, before, first}
use Rattle.files.specs.Format.{two, header_of, owners_at, tables_at, rows_at, gates_at, outputs_at, offset, len, end_of, section, gate_entries, numbers}

-- the file has its header and its five pairs
abbrev pub length_fault : List ℕ → Option Refusal
length_fault f = unless (nat_le 54 (length f)) (Layout (length f))

-- a count of the header lies within its limits
abbrev pub count_fault : List ℕ → ℕ → ℕ → ℕ → Option Refusal
count_fault f k low high = unless (nat_le low (two f k) && nat_le (two f k) high) (Limit k)

-- q, n, I, G, T, R and O do
abbrev pub counts_fault : List ℕ → Option Refusal
counts_fault f =
    first
    (count_fault f 0 2 256 ∷ count_fault f 2 2 8 ∷ count_fault f 4 1 160 ∷ count_fault f 6 0 4096 ∷ count_fault f 8 0 16 ∷ count_fault f 10 0 64 ∷ count_fault f 12 1 64
    ∷ [])

-- a section has the length that the counts give it, and does not begin too soon
abbrev pub pair_fault : List ℕ → ℕ → ℕ → ℕ → Option Refusal
pair_fault f pair soonest length = unless (len f pair == length && nat_le soonest (offset f pair)) (Layout pair)

-- each section begins where the one before it ends, or later, and the last ends within the file
abbrev pub pairs_fault : List ℕ → Option Refusal
pairs_fault f =
    let h = header_of f in
    first
    (pair_fault f owners_at 54 h.inputs ∷ pair_fault f tables_at (end_of f owners_at) (h.tables * h.size) ∷ pair_fault f rows_at (end_of f tables_at) (8 * h.rows)
    ∷ pair_fault f gates_at (end_of f rows_at) (5 * h.gates) ∷ pair_fault f outputs_at (end_of f gates_at) (2 * h.outputs)
    ∷ unless (nat_le (end_of f outputs_at) (length f)) (Layout outputs_at) ∷ [])

-- there are places for all gates and for all outputs
abbrev pub places_fault : Header → ℕ → ℕ → Option Refusal
places_fault h gate_places output_places = first (unless (nat_le h.gates gate_places) (Places 6) ∷ unless (nat_le h.outputs output_places) (Places 12) ∷ [])

-- the offset of the first number that is not below a limit, where the numbers stand at o, o + w, o + 2 w and so on
abbrev pub beyond : ℕ → ℕ → ℕ → List ℕ → Option ℕ
beyond w o high [] = None
beyond w o high (x ∷ xs) = cond (nat_lt x high) (beyond w (o + w) high xs) (Some o)

-- owners are parties
abbrev pub owners_fault : List ℕ → Option Refusal
owners_fault f = found Absent (beyond 1 (offset f owners_at) (header_of f).parties (section f owners_at))

-- the bytes of a section, tables or rows, are codes
abbrev pub codes_fault : List ℕ → ℕ → Option Refusal
codes_fault f pair = found Code (beyond 1 (offset f pair) (header_of f).size (section f pair))

-- outputs, at o, o + 2 and so on, are wires
abbrev pub outputs_fault : Header → ℕ → List ℕ → Option Refusal
outputs_fault h o os = found Absent (beyond 2 o (h.inputs + h.gates) os)

-- how a second operand is refused
abbrev pub second_refusal : Gate → ℕ → Refusal
second_refusal (adds f s) o = Operand o
second_refusal (shifts f s) o = Code o
second_refusal (maps f s) o = Operand o
second_refusal (looks f s) o = Operand o

-- a gate at o that writes wire w, l LOOK gates having come before: at most 240 of these; then the operands
abbrev pub gate_fault : Header → ℕ → ℕ → ℕ → Gate → Option Refusal
gate_fault h o w l g =
    first
    (unless (not (is_look g) || nat_lt l 240) (Limit o) ∷ unless (nat_lt (first_of g) w) (Operand (o + 1))
    ∷ unless (nat_lt (second_of g) (limit h.size h.rows h.tables w g)) (second_refusal g (o + 3)) ∷ [])

-- all gates, each of a known kind
abbrev pub gates_fault : Header → ℕ → ℕ → ℕ → List (Option Gate) → Option Refusal
gates_fault h o w l [] = None
gates_fault h o w l (None ∷ es) = Some (Kind o)
gates_fault h o w l (Some g ∷ es) = before (gate_fault h o w l g) (gates_fault h (o + 5) (w + 1) (l + mark (is_look g)) es)

-- the sections of a file, in their order
abbrev pub sections_fault : List ℕ → Option Refusal
sections_fault f =
    let h = header_of f in
    first
    (owners_fault f ∷ codes_fault f tables_at ∷ codes_fault f rows_at ∷ gates_fault h (offset f gates_at) h.inputs 0 (gate_entries (section f gates_at))
    ∷ outputs_fault h (offset f outputs_at) (numbers (section f outputs_at)) ∷ [])

-- all of a file, with so many gate places and output places supplied
unfoldable pub fault : List ℕ → ℕ → ℕ → Option Refusal
fault f gate_places output_places =
    first (length_fault f ∷ counts_fault f ∷ pairs_fault f ∷ places_fault (header_of f) gate_places output_places ∷ sections_fault f ∷ [])
