-- The clear run of a circuit: its wires as if there were no masks.
use Rattle.std.specs.Prelude.{ℕ, List, map}
use Rattle.groups.specs.Group.{Group}
use Rattle.model.specs.Words.{at}
use Rattle.model.specs.Net.{Net, Rules, entry, flow}

-- a SHIFT adds its constant, a LOOK reads its table
abbrev pub clearly : Group → Net → Rules
clearly G net = record { shift = λ c x. G.add x c; look = λ l f t x. entry net t x }

-- the clear value of every wire, from the inputs' values
abbrev pub clear : Group → Net → List ℕ → List ℕ
clear G net values = flow G net (clearly G net) values

-- the values of the output wires among those of all wires
abbrev pub outputs_of : Net → List ℕ → List ℕ
outputs_of net ws = map (at ws) net.outputs
