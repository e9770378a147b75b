use Rattle.loss_rule.specs.declared.rule.LossRule.TheVariants.{Decided}
use Rattle.answers.proofs.SomeReplay.{some_replay}
use Rattle.answers.proofs.each_intake_has_an_outcome.Goals as goal

pub returns-clause-by_rule : goal.returns-clause-by_rule
returns-clause-by_rule c = λ rule check setup incoming order intake are room. some_replay setup incoming order intake room rule check are

pub returns-clause-decided : goal.returns-clause-decided
returns-clause-decided c = λ check setup incoming order intake are room.
    let found = some_replay setup incoming order intake room Decided check are in
    (found.0, c.replay_by_decisions_alone_is_a_replay.ensures.replay check setup incoming order found.0 found.1)
