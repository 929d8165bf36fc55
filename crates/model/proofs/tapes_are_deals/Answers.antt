use Rattle.model.proofs.Tapes.{one_to_one}
use Rattle.model.proofs.tapes_are_deals.Goals as goal

pub returns : goal.returns
returns c = one_to_one
