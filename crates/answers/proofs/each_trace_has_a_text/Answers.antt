use Rattle.loss_rule.specs.declared.rule.LossRule.TheVariants.{Decided}
use Rattle.answers.proofs.SomeText.{some_text}
use Rattle.answers.proofs.each_trace_has_a_text.Goals as goal

pub returns-clause-by_rule : goal.returns-clause-by_rule
returns-clause-by_rule c = some_text

pub returns-clause-decided : goal.returns-clause-decided
returns-clause-decided c = λ input said read few.
    let found = some_text Decided input said read few in
    (found.0, c.replay_by_decisions_alone_is_a_replay.ensures.replay input found.0 found.1)
