use Rattle.flow_core.proofs.Draining.{past-kept, delivered-closed, sequence-closed}
use Rattle.flow_core.proofs.laws.closed_flow_has_come_past_all_kept.Goals as goal

pub returns-clause-past : goal.returns-clause-past
returns-clause-past c = past-kept

pub returns-clause-delivered : goal.returns-clause-delivered
returns-clause-delivered c = delivered-closed

pub returns-clause-sequence : goal.returns-clause-sequence
returns-clause-sequence c = sequence-closed
