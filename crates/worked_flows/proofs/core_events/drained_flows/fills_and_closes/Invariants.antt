-- The second flow runs and is drained.
use Rattle.flow_core.specs.Flows.{IsDrainedAt}
use Rattle.flow_core.specs.Giving.{IsRunning}
use Rattle.worked_flows.proofs.core_events.drained_flows.fills_and_closes.Given as goal

abbrev pub invariant-loop-number : goal.invariant-loop-number
invariant-loop-number g l = IsRunning g.C.HeaderCheck.accepts l.core 1 × IsDrainedAt l.core 1
