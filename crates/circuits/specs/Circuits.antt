-- A circuit as a net.
use Rattle.model.specs.Net.{Net}
use Rattle.circuits.specs.declared.circuit.Circuit.{Circuit}
use Rattle.circuits.specs.Nets.{net_of}

abbrev pub net : Circuit → Net
net c = net_of c.size c.parties c.owners.now c.tables.now c.rows.now c.gates.now c.outputs.now
