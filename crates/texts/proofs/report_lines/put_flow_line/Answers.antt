use Rattle.text_lines.proofs.PutTexts.{puts-then}
use Rattle.texts.proofs.report_lines.put_flow_line.Goals as goal

pub returns : goal.returns
returns g c = puts-then g.O.PutText.after (puts-then g.O.PutText.after c.put_flow_words.ensures c.put_counts.ensures) c.put_word.ensures
