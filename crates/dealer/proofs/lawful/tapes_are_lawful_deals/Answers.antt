use Rattle.model.proofs.Tapes.{one_to_one}
use Rattle.circuits.specs.Circuits.{net}
use Rattle.dealer.proofs.lawful.tapes_are_lawful_deals.Goals as goal

pub returns : goal.returns
returns g c =
    record {
      here = one_to_one (g.G.MaskGroup.means c.args.group.now) (g.met.G.MaskGroup.lawful c.args.group.now) (net c.args.circuit.now) c.args.circuit.now.valid;
      all = one_to_one;
    }
