use Rattle.flow_core.proofs.Sequences.{sequence-some, sequence-once}
use Rattle.flow_core.proofs.laws.delivery_sequence_is_one.Goals as goal

pub returns-clause-some : goal.returns-clause-some
returns-clause-some c = sequence-some

pub returns-clause-only : goal.returns-clause-only
returns-clause-only c = sequence-once
