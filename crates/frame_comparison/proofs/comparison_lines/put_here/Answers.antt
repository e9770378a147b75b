use Rattle.text_lines.proofs.PutTexts.{puts-then}
use Rattle.frame_comparison.proofs.comparison_lines.put_here.Goals as goal

pub returns : goal.returns
returns g c = puts-then g.O.PutText.after c.put_lonely.ensures c.put_word.ensures
