use Rattle.texts.specs.Report.{report_text}
use Rattle.texts.proofs.PutLines.{buffer-finished}
use Rattle.texts.proofs.report_text.report.Goals as goal

pub returns : goal.returns
returns c =
    buffer-finished c.finish.result c.new-text.result c.put_report.new.out (report_text c.args.outcome.now) c.new-text.ensures.empty c.put_report.ensures c.finish.ensures.whole c.finish.ensures.text
