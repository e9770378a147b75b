use Rattle.text_lines.proofs.PutTexts.{puts-then}
use Rattle.capture_summary.proofs.report.put_lane_line.Goals as goal

pub returns : goal.returns
returns g c = rw c.from.ensures at (puts-then g.O.PutText.after (puts-then g.O.PutText.after c.put_admitted.ensures c.put_refused.ensures) c.put_word.ensures)
