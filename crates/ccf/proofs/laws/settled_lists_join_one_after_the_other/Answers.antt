use Rattle.ccf.proofs.OneJoining.{Joins-append}
use Rattle.ccf.proofs.laws.settled_lists_join_one_after_the_other.Goals as goal

pub returns : goal.returns
returns c = Joins-append
