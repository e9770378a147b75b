use Rattle.text_lines.proofs.PutTexts.{puts-then}
use Rattle.capture_summary.proofs.summary_text.put_summary.Goals as goal

pub returns : goal.returns
returns g c =
    let flows = rw c.as_slice-flows.ensures.value at c.put_all_flows.ensures in
    let quiet = rw (c.quiet_count-quiet.ensures, c.as_slice-flows.ensures.value) at c.put_counted_line.ensures in
    let channels = rw c.as_slice-channels.ensures.value at c.put_all_channels.ensures in
    puts-then g.O.PutText.after
    (puts-then g.O.PutText.after (puts-then g.O.PutText.after (puts-then g.O.PutText.after (puts-then g.O.PutText.after flows quiet) channels) c.put_records_line.ensures) c.put_times_told.ensures)
    c.put_all_reasons.ensures
