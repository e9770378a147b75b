use Rattle.flow_core.proofs.FlowOutcomes.{drained-outcome}
use Rattle.flow_core.proofs.laws.drained_flow_has_its_outcome.Goals as goal

pub returns : goal.returns
returns c = drained-outcome
