use Rattle.std.proofs.Common.{[], ◌++◌, ◌∙◌, rules}
use Rattle.capture_summary.specs.SummaryText.{summary_text}
use Rattle.capture_command.proofs.whole_command.write_counted.Goals as goal

pub returns : goal.returns
returns g c =
    let more = c.put_counted.ensures.0 in
    let put = c.put_counted.ensures.1 c.new-text.result [] c.new-text.ensures.unused in
    let written = c.finish.ensures.written c.new-text.result (summary_text c.args.tally.now.summary ++ more) put in
    let name = c.finish.ensures.same_reference ∙ put.same in
    (more, search (rules, c.new-text.ensures.same_writer))
