use Rattle.secrecy.proofs.Difference.{difference_is}
use Rattle.secrecy.proofs.difference_follows.Goals as goal

pub returns : goal.returns
returns c = difference_is
