-- The parts of a circuit as a net.
use Rattle.std.specs.Prelude.{ℕ, List}
use Rattle.model.specs.Net.{Net}
use Rattle.files.specs.declared.gate.Gate.{Gate}
use Rattle.files.specs.Gates.{gates_of}

abbrev pub net_of : ℕ → ℕ → List ℕ → List ℕ → List ℕ → List Gate → List ℕ → Net
net_of q n owners tables rows gates outputs =
    record { size = q; parties = n; owners = owners; tables = tables; rows = rows; gates = gates_of gates; outputs = outputs }
