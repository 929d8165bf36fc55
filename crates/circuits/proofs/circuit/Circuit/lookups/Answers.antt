use Rattle.std.proofs.Common.{length, ap, arith}
use Rattle.model.specs.Net.{lookups_from}
use Rattle.model.proofs.Lookups.{lookups_length}
use Rattle.circuits.specs.Circuits.{net}
use Rattle.circuits.proofs.circuit.Circuit.lookups.Goals as goal

pub returns-clause-few : goal.returns-clause-few
returns-clause-few c =
    let N = net c.args.self.now in
    let same = ap (λ w. length (lookups_from w N.gates)) c.input_count.ensures.is in
    omega (arith, same, lookups_length N, c.args.self.now.valid.few)
