-- By decisions alone a replay by the rule is a replay.
use Rattle.loss_rule.specs.declared.rule.LossRule.TheVariants.{Decided}
use Rattle.texts.specs.Replay.{IsReplayed, IsReplayedBy, IsReplayFault}
use Rattle.engines.proofs.WeakerTexts.{RunsEngine-weaker}
use Rattle.engines.proofs.replay.replay_text.Goals as goal

pub returns : goal.returns
returns g c =
    RunsEngine-weaker g.R.Read.remaining g.W.Write.contents (IsReplayedBy Decided) IsReplayed IsReplayFault c.args.reader.now
    c.replay_text_by.new.reader c.args.writer.now c.replay_text_by.new.writer c.replay_text_by.result
    c.replay_by_decisions_alone_is_a_replay.ensures.replay c.replay_text_by.ensures
