use Rattle.ccf.proofs.OneJoining.{Walks-once}
use Rattle.ccf.proofs.laws.walk_has_one_answer.Goals as goal

pub returns : goal.returns
returns c = Walks-once
