-- What CIRCUIT makes of a file and filled places.
use Rattle.std.specs.Prelude.{ℕ, List, [], ◌∷◌, map, length, take, Some, Option}
use Rattle.refusals.specs.declared.Refusal.{Refusal}
use Rattle.refusals.specs.Tests.{first}
use Rattle.model.specs.Net.{Net}
use Rattle.files.specs.declared.gate.Gate.{Gate}
use Rattle.files.specs.Gates.{gates_of}
use Rattle.files.specs.Format.{header_of, owners_at, tables_at, rows_at, gates_at, outputs_at, offset, section}
use Rattle.files.specs.Faults.{gates_fault, outputs_fault, fault}
use Rattle.circuits.specs.Nets.{net_of}

-- the tests of the file, then those of the records in the first places, as if they stood in the file
abbrev pub circuit_fault : List ℕ → List Gate → List ℕ → Option Refusal
circuit_fault f gates outputs =
    let h = header_of f in
    first
    (fault f (length gates) (length outputs) ∷ gates_fault h (offset f gates_at) h.inputs 0 (map Some (gates_of (take h.gates gates)))
    ∷ outputs_fault h (offset f outputs_at) (take h.outputs outputs) ∷ [])

-- owners, tables and rows of the file, gates and outputs of the places
abbrev pub circuit_net : List ℕ → List Gate → List ℕ → Net
circuit_net f gates outputs =
    let h = header_of f in
    net_of h.size h.parties (section f owners_at) (section f tables_at) (section f rows_at) (take h.gates gates) (take h.outputs outputs)
