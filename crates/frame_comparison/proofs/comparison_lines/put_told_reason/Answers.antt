use Rattle.text_lines.proofs.PutTexts.{puts-then}
use Rattle.frame_comparison.proofs.comparison_lines.put_told_reason.Goals as goal

pub returns-in-Some : goal.returns-in-Some
returns-in-Some g c = rw c.in-Some.is (puts-then g.O.PutText.after c.put_word.ensures c.put_reason.ensures)
