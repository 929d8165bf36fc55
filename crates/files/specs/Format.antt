-- The circuit file: where its numbers stand and what net they give. All offsets count bytes from the file's start, and
-- numbers of several bytes have the low byte first.
use Rattle.std.specs.Prelude.{◌≡◌, ℕ, zero, suc, ◌+◌, ◌*◌, ◌≤◌, List, [], ◌∷◌, length, take, drop, Some, None, Option}
use Rattle.model.specs.Words.{at}
use Rattle.model.specs.Net.{Net, Gate, adds, shifts, maps, looks}
use Rattle.files.specs.declared.header.Header.{Header}
use Rattle.files.specs.declared.directory.Directory.{Directory}

-- the number in two bytes
abbrev pub joined : ℕ → ℕ → ℕ
joined low high = low + 256 * high

-- the two-byte number at k, and the four-byte number
abbrev pub two : List ℕ → ℕ → ℕ
two f k = joined (at f k) (at f (k + 1))

abbrev pub four : List ℕ → ℕ → ℕ
four f k = two f k + 65536 * two f (k + 2)

-- bytes 0 to 13: q, n, I, G, T, R, O
abbrev pub header_of : List ℕ → Header
header_of f =
    record { size = two f 0; parties = two f 2; inputs = two f 4; gates = two f 6; tables = two f 8; rows = two f 10; outputs = two f 12 }

-- Bytes 14 to 53: offset and length of the five sections. Each section goes by the place of its pair.
abbrev pub owners_at : ℕ
owners_at = 14

abbrev pub tables_at : ℕ
tables_at = 22

abbrev pub rows_at : ℕ
rows_at = 30

abbrev pub gates_at : ℕ
gates_at = 38

abbrev pub outputs_at : ℕ
outputs_at = 46

abbrev pub offset : List ℕ → ℕ → ℕ
offset f pair = four f pair

abbrev pub len : List ℕ → ℕ → ℕ
len f pair = four f (pair + 4)

-- where a section ends
abbrev pub end_of : List ℕ → ℕ → ℕ
end_of f pair = offset f pair + len f pair

-- the five pairs
abbrev pub directory_of : List ℕ → Directory
directory_of f =
    record {
      owners = (offset f owners_at, len f owners_at);
      tables = (offset f tables_at, len f tables_at);
      rows = (offset f rows_at, len f rows_at);
      gates = (offset f gates_at, len f gates_at);
      outputs = (offset f outputs_at, len f outputs_at);
    }

-- every section ends within the file
abbrev pub InFile : List ℕ → Type 0
InFile f =
    (end_of f owners_at ≤ length f) × (end_of f tables_at ≤ length f) × (end_of f rows_at ≤ length f) × (end_of f gates_at ≤ length f) × (end_of f outputs_at ≤ length f)

-- every section has the length that the counts give it
abbrev pub Lengths : List ℕ → Type 0
Lengths f =
    (len f owners_at ≡ (header_of f).inputs) × (len f tables_at ≡ (header_of f).tables * (header_of f).size) × (len f rows_at ≡ 8 * (header_of f).rows)
    × (len f gates_at ≡ 5 * (header_of f).gates) × (len f outputs_at ≡ 2 * (header_of f).outputs)

-- the bytes of a section
abbrev pub section : List ℕ → ℕ → List ℕ
section f pair = take (len f pair) (drop (offset f pair) f)

-- the gate of a kind with two operands, if there is such a kind
abbrev pub gate_of_kind : ℕ → ℕ → ℕ → Option Gate
gate_of_kind zero f s = Some (adds f s)
gate_of_kind (suc zero) f s = Some (shifts f s)
gate_of_kind (suc (suc zero)) f s = Some (maps f s)
gate_of_kind (suc (suc (suc zero))) f s = Some (looks f s)
gate_of_kind (suc (suc (suc (suc k)))) f s = None

-- the gates of a section, five bytes each
abbrev pub gate_entries : List ℕ → List (Option Gate)
gate_entries [] = []
gate_entries (k ∷ []) = []
gate_entries (k ∷ a ∷ []) = []
gate_entries (k ∷ a ∷ b ∷ []) = []
gate_entries (k ∷ a ∷ b ∷ c ∷ []) = []
gate_entries (k ∷ a ∷ b ∷ c ∷ d ∷ rest) = gate_of_kind k (joined a b) (joined c d) ∷ gate_entries rest

-- the gates of known kinds among them
abbrev pub known : List (Option Gate) → List Gate
known [] = []
known (None ∷ es) = known es
known (Some g ∷ es) = g ∷ known es

-- the two-byte numbers of a section
abbrev pub numbers : List ℕ → List ℕ
numbers [] = []
numbers (a ∷ []) = []
numbers (a ∷ b ∷ rest) = joined a b ∷ numbers rest

-- the net that a file holds
abbrev pub net_in : List ℕ → Net
net_in f =
    record {
      size = (header_of f).size;
      parties = (header_of f).parties;
      owners = section f owners_at;
      tables = section f tables_at;
      rows = section f rows_at;
      gates = known (gate_entries (section f gates_at));
      outputs = numbers (section f outputs_at);
    }
