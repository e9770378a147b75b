use Rattle.flow_core.proofs.FlowOutcomes.{one-outcome}
use Rattle.flow_core.proofs.laws.flow_has_at_most_one_outcome.Goals as goal

pub returns : goal.returns
returns c = λ check flow_record events frames others counts more. one-outcome check flow_record events frames others counts more (c.joining_has_one_answer.ensures check)
