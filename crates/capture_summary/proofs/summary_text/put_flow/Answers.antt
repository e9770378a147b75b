use Rattle.std.proofs.Common.{sym, ◌∙◌}
use Rattle.text_lines.proofs.PutTexts.{puts-then}
use Rattle.capture_summary.proofs.summary_text.put_flow.Goals as goal

pub returns : goal.returns
returns g c =
    rw (c.if-not-flow.false, sym c.is_quiet.ensures ∙ c.if-is_quiet.false)
    (puts-then g.O.PutText.after (puts-then g.O.PutText.after c.put_segments_line.ensures c.put_frames_line.ensures) c.put_requests_line.ensures)
