use Rattle.text_lines.proofs.PutTexts.{puts-then}
use Rattle.capture_command.proofs.whole_command.put_counted.Goals as goal

pub returns : goal.returns
returns g c = (c.put_comparing.ensures.0, puts-then g.O.PutText.after c.put_summary.ensures c.put_comparing.ensures.1)
