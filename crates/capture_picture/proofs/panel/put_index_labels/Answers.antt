use Rattle.text_lines.proofs.PutTexts.{puts-then}
use Rattle.capture_picture.proofs.panel.put_index_labels.Goals as goal

pub returns : goal.returns
returns g c = puts-then g.O.PutText.after (puts-then g.O.PutText.after (puts-then g.O.PutText.after c.put_valued.ensures c.put_word.ensures) c.put_valued-2.ensures) c.put_word-2.ensures
