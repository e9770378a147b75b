use Rattle.ccf.proofs.OneJoining.{Joins-once}
use Rattle.ccf.proofs.laws.joining_has_one_answer.Goals as goal

pub returns : goal.returns
returns c = Joins-once
