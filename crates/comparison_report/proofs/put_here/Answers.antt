use Rattle.text_lines.proofs.PutTexts.{puts-then}
use Rattle.comparison_report.proofs.put_here.Goals as goal

pub returns : goal.returns
returns g c = puts-then g.O.PutText.after c.put_only.ensures c.put_word.ensures
