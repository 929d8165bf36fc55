use Rattle.secrecy.proofs.Computed.{computed}
use Rattle.secrecy.proofs.shift_is_computed.Goals as goal

pub returns : goal.returns
returns c = computed
