use Rattle.laws.proofs.Held.{circuits_hold}
use Rattle.laws.proofs.circuits_hold_what_was_read.Goals as goal

pub returns : goal.returns
returns c = circuits_hold
