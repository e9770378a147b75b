-- The second flow runs.
use Rattle.flow_core.specs.Giving.{IsRunning}
use Rattle.worked_flows.proofs.core_events.failed_allocations.drains_refused.finish.Given as goal

abbrev pub invariant-loop-bytes : goal.invariant-loop-bytes
invariant-loop-bytes g l = IsRunning g.C.HeaderCheck.accepts l.core 1
