-- The flow runs once it was drained.
use Rattle.worked_flows.proofs.Running.{drain_runs}
use Rattle.worked_flows.proofs.core_events.drained_flows.arrive.Goals as goal

pub returns-clause-running : goal.returns-clause-running
returns-clause-running g c =
    drain_runs g.C.HeaderCheck.accepts c.take.new.core c.drain.new.self 1 c.take.ensures c.args.frames.now.items c.drain.new.frames.items c.in_ok-drain.ensures.drained
