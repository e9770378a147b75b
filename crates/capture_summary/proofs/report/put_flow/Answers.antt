use Rattle.text_lines.proofs.PutTexts.{puts-then}
use Rattle.capture_summary.proofs.report.put_flow.Goals as goal

pub returns-then-flow : goal.returns-then-flow
returns-then-flow g c = rw c.if-flow.true (puts-then g.O.PutText.after c.put_flow_line.ensures c.put_joined_line.ensures)
