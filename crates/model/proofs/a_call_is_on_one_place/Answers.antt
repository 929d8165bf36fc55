use Rattle.model.proofs.Lift.{lift}
use Rattle.model.proofs.a_call_is_on_one_place.Goals as goal

pub returns : goal.returns
returns c = lift
