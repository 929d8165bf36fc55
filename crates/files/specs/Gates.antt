-- Gate records of the program as gates of a net.
use Rattle.std.specs.Prelude.{◌≡◌, ℕ, List, map, codes, Some, None, Option, option_map, Result, MatchResult}
use Rattle.model.specs.Net as net
use Rattle.files.specs.declared.gate.Gate.{Gate}
use Rattle.files.specs.declared.gate.Kind.{Kind}
use Rattle.files.specs.declared.gate.Kind.TheVariants.{Add, Shift, Map, Look}
use Rattle.files.specs.declared.gate.UnknownKind.{UnknownKind}
use Rattle.files.specs.Format.{gate_of_kind, gate_entries}

abbrev pub of_kind : Kind → ℕ → ℕ → net.Gate
of_kind Add f s = net.adds f s
of_kind Shift f s = net.shifts f s
of_kind Map f s = net.maps f s
of_kind Look f s = net.looks f s

abbrev pub gate_of : Gate → net.Gate
gate_of g = of_kind g.kind g.first g.second

abbrev pub gates_of : List Gate → List net.Gate
gates_of gs = map gate_of gs

-- what a list of records has past its end
abbrev pub no_gate : Gate
no_gate = record { kind = Add; first = 0; second = 0 }

-- what a byte that should be a kind is read as: the kind of its gates, or itself where no gate is of that kind
abbrev pub Decodes : ℕ → Result Kind UnknownKind → Type 0
Decodes byte r =
    MatchResult r (λ kind. (f s : ℕ) → gate_of_kind byte f s ≡ Some (of_kind kind f s)) (λ e. (e.0 ≡ byte) × ((f s : ℕ) → gate_of_kind byte f s ≡ None))

-- how a kind is printed
abbrev pub name_of : Kind → List ℕ
name_of Add = codes "ADD"
name_of Shift = codes "SHIFT"
name_of Map = codes "MAP"
name_of Look = codes "LOOK"

-- a gate of a net as a record, and the entries of a section as records
abbrev pub record_of : net.Gate → Gate
record_of (net.adds f s) = record { kind = Add; first = f; second = s }
record_of (net.shifts f s) = record { kind = Shift; first = f; second = s }
record_of (net.maps f s) = record { kind = Map; first = f; second = s }
record_of (net.looks f s) = record { kind = Look; first = f; second = s }

abbrev pub entries_in : List ℕ → List (Option Gate)
entries_in bytes = map (option_map record_of) (gate_entries bytes)
