use Rattle.laws.proofs.GapsUnread.{gaps_unread}
use Rattle.laws.proofs.gaps_are_not_read.Goals as goal

pub returns : goal.returns
returns c = gaps_unread
