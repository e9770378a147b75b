use Rattle.worked_flows.proofs.core_events.expect_drained.Goals as goal

pub returns-clause-drained : goal.returns-clause-drained
returns-clause-drained g c = c.is_drained.ensures.0 search
