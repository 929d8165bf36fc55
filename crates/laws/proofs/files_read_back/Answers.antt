use Rattle.laws.proofs.ReadBack.{read_back}
use Rattle.laws.proofs.files_read_back.Goals as goal

pub returns : goal.returns
returns c = read_back
