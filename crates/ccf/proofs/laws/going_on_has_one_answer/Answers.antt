use Rattle.ccf.proofs.OneJoining.{GoesOn-once}
use Rattle.ccf.proofs.laws.going_on_has_one_answer.Goals as goal

pub returns : goal.returns
returns c = GoesOn-once
