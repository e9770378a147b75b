use Rattle.flow_core.proofs.FlowOutcomes.{closed-outcome}
use Rattle.flow_core.proofs.laws.closed_flow_has_one_outcome.Goals as goal

pub returns : goal.returns
returns c = λ check flow_record n m events frames others counts more. closed-outcome check flow_record n m events frames others counts more (c.joining_has_one_answer.ensures check)
