-- A LOOK gate of a circuit, and its masked table.
use Rattle.std.specs.Prelude.{ℕ, ◌<◌, List}
use Rattle.groups.specs.Group.{Group, sub}
use Rattle.model.specs.Words.{at}
use Rattle.model.specs.Net.{Net, Lookup, wires, table_count}

-- its wires are wires of the circuit, and its table is one
pub record Within (net : Net) (k : Lookup) : Type 0 where
  pub wire : k.wire < wires net
  pub operand : k.operand < wires net
  pub table : k.table < table_count net

-- what a table has at j when its operand is masked by s and its wire by o: T(j - s) + o
abbrev pub masked_at : Group → List ℕ → ℕ → ℕ → ℕ → ℕ
masked_at G table s o j = G.add (at table (sub G j s)) o
