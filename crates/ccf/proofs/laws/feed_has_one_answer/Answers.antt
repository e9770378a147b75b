use Rattle.ccf.proofs.OneJoining.{Feeds-once}
use Rattle.ccf.proofs.laws.feed_has_one_answer.Goals as goal

pub returns : goal.returns
returns c = Feeds-once
