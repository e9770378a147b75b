use Rattle.answers.proofs.SomeOutcome.{some_outcome, some_close}
use Rattle.answers.proofs.each_flow_has_an_outcome.Goals as goal

pub returns-clause-drained : goal.returns-clause-drained
returns-clause-drained c = some_outcome

pub returns-clause-closed : goal.returns-clause-closed
returns-clause-closed c = λ check flow_record events are.
    let found = some_close check flow_record events are in
    (found.frames, found.counts, found.gives)
