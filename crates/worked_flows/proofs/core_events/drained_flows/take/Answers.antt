-- The flow runs after its event.
use Rattle.flow_core.specs.Events.{arrives}
use Rattle.worked_flows.proofs.Running.{event_runs}
use Rattle.worked_flows.proofs.core_events.drained_flows.take.Goals as goal

pub returns : goal.returns
returns g c = event_runs g.C.HeaderCheck.accepts c.args.core.now c.apply.new.self 1 c.requires.running (arrives c.args.segment) c.apply.result c.apply.ensures.others c.apply.ensures.flow
