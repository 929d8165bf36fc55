use Rattle.secrecy.proofs.Summary.{secrecy}
use Rattle.secrecy.proofs.entered_values_stay_hidden.Goals as goal

pub returns : goal.returns
returns c = secrecy
