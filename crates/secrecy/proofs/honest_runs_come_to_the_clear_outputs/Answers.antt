use Rattle.secrecy.proofs.Honest.{honest}
use Rattle.secrecy.proofs.honest_runs_come_to_the_clear_outputs.Goals as goal

pub returns : goal.returns
returns c = honest
