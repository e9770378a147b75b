-- By decisions alone the report by the rule is the report without one.
use Rattle.std.proofs.lemmas.Result.{IfOk-weaker}
use Rattle.loss_rule.specs.declared.rule.LossRule.TheVariants.{Decided}
use Rattle.texts.specs.Replay.{IsReplayed, IsReplayedBy}
use Rattle.texts.proofs.replay.replay_lines.Goals as goal

pub returns-clause-text : goal.returns-clause-text
returns-clause-text c =
    IfOk-weaker c.replay_lines_by.result (λ text. IsReplayedBy Decided c.args.input.items text.items) (λ text. IsReplayed c.args.input.items text.items)
    (λ text is. c.replay_by_decisions_alone_is_a_replay.ensures.replay c.args.input.items text.items is) c.replay_lines_by.ensures.text
