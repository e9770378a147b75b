-- A replay of all flows is a replay.
use Rattle.flow_selection.specs.declared.selection.Selection.TheVariants.{All}
use Rattle.texts.specs.Replay.{IsReplayedBy, IsReplayFault}
use Rattle.texts.specs.Selected.{IsReplayedOf}
use Rattle.engines.proofs.WeakerTexts.{RunsEngine-weaker}
use Rattle.engines.proofs.replay.replay_text_by.Goals as goal

pub returns : goal.returns
returns g c =
    RunsEngine-weaker g.R.Read.remaining g.W.Write.contents (IsReplayedOf All c.args.rule) (IsReplayedBy c.args.rule) IsReplayFault c.args.reader.now
    c.replay_text_of.new.reader c.args.writer.now c.replay_text_of.new.writer c.replay_text_of.result
    (c.report_of_all_flows_is_the_report.ensures.replay c.args.rule) c.replay_text_of.ensures
