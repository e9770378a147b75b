-- By decisions alone a run by the rule is a run.
use Rattle.loss_rule.specs.declared.rule.LossRule.TheVariants.{Decided}
use Rattle.texts.specs.Replay.{IsReportFault}
use Rattle.texts.specs.Run.{IsRunText, IsRunTextBy}
use Rattle.engines.proofs.WeakerTexts.{RunsEngine-weaker}
use Rattle.commands.proofs.run.run_text.Goals as goal

pub returns : goal.returns
returns g c =
    RunsEngine-weaker g.R.Read.remaining g.W.Write.contents (IsRunTextBy Decided c.args.ring c.args.mailbox) (IsRunText c.args.ring c.args.mailbox)
    (IsReportFault c.args.ring) c.args.reader.now c.run_text_by.new.reader c.args.writer.now c.run_text_by.new.writer c.run_text_by.result
    (c.run_by_decisions_alone_is_a_run.ensures.run c.args.ring c.args.mailbox) c.run_text_by.ensures
