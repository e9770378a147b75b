-- Each flow of a new core runs.
use Rattle.std.proofs.Common.{◌∷◌, [], refl}
use Rattle.worked_flows.proofs.Running.{new_runs}
use Rattle.worked_flows.proofs.core_events.drained_flows.two_flows.Goals as goal

pub returns-clause-running : goal.returns-clause-running
returns-clause-running g c =
    new_runs g.C.HeaderCheck.accepts c.args.check (c.record.result ∷ c.record-2.result ∷ []) c.in_ok-core.core 1 c.record-2.result c.in_ok-core.ensures.new (c.in_ok-core.ensures.can_be_set_up refl) refl
