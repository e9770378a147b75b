use Rattle.text_lines.proofs.PutTexts.{puts-then}
use Rattle.capture_summary.proofs.report.put_report.Goals as goal

pub returns : goal.returns
returns g c =
    let flows = rw c.as_slice-flows.ensures.value at c.put_all_flows.ensures in
    let channels = rw c.as_slice-channels.ensures.value at c.put_all_channels.ensures in
    puts-then g.O.PutText.after (puts-then g.O.PutText.after (puts-then g.O.PutText.after (puts-then g.O.PutText.after flows channels) c.put_passed.ensures) c.put_records_line.ensures)
    c.put_clock_line.ensures
