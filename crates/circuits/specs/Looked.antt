-- A LOOK gate of the program as a LOOK gate of a net.
use Rattle.model.specs.Net as net
use Rattle.circuits.specs.declared.lookups.Lookup.{Lookup}

abbrev pub lookup_of : Lookup → net.Lookup
lookup_of k = record { wire = k.wire; operand = k.operand; table = k.table }
