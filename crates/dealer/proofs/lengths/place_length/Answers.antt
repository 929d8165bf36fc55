use Rattle.std.proofs.Common.{arith}
use Rattle.circuits.specs.Circuits.{net}
use Rattle.dealer.proofs.Owned.{part_few}
use Rattle.dealer.proofs.lengths.place_length.Goals as goal

pub overflow_add-result : goal.overflow_add-result
overflow_add-result c =
    let circuit = c.args.circuit.now in
    let few = part_few (net circuit) circuit.valid c.args.party in
    omega (arith, c.in_ok-part_length.ensures, c.wire_count.ensures.within)
