use Rattle.std.proofs.Common.{[], ◌∙◌, rules}
use Rattle.texts.specs.Report.{report_text}
use Rattle.engines.proofs.replay.write_report.Goals as goal

pub returns : goal.returns
returns g c =
    let put = c.put_report.ensures c.new-text.result [] c.new-text.ensures.unused in
    let written = c.finish.ensures.written c.new-text.result (report_text c.args.outcome.now) put in
    let name = c.finish.ensures.same_reference ∙ put.same in
    search (rules, c.new-text.ensures.same_writer)
