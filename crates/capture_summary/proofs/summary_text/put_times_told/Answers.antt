use Rattle.text_lines.proofs.PutTexts.{puts-then}
use Rattle.capture_summary.proofs.summary_text.put_times_told.Goals as goal

pub returns : goal.returns
returns g c = puts-then g.O.PutText.after c.put_set_back.ensures c.put_crowded.ensures
