use Rattle.std.proofs.Common.{[], ◌∙◌, rules}
use Rattle.texts.specs.Selected.{report_of}
use Rattle.engines.proofs.replay.write_report_of.Goals as goal

pub returns : goal.returns
returns g c =
    let put = c.put_report_of.ensures c.new-text.result [] c.new-text.ensures.unused in
    let written = c.finish.ensures.written c.new-text.result (report_of c.args.selected.now c.args.outcome.now) put in
    let name = c.finish.ensures.same_reference ∙ put.same in
    search (rules, c.new-text.ensures.same_writer)
