use Rattle.receiver.proofs.OneReplay.{one-replay_fault, one-tags_fault}
use Rattle.receiver.proofs.laws.replay_has_one_fault.Goals as goal

pub returns-clause-replay : goal.returns-clause-replay
returns-clause-replay c = one-replay_fault

pub returns-clause-tags : goal.returns-clause-tags
returns-clause-tags c = one-tags_fault
