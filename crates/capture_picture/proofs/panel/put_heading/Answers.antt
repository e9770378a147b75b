use Rattle.text_lines.proofs.PutTexts.{puts-then}
use Rattle.capture_picture.proofs.panel.put_heading.Goals as goal

pub returns : goal.returns
returns g c = rw c.from.ensures at (puts-then g.O.PutText.after (puts-then g.O.PutText.after (puts-then g.O.PutText.after (puts-then g.O.PutText.after (puts-then g.O.PutText.after (puts-then g.O.PutText.after (puts-then g.O.PutText.after c.put_valued.ensures c.put_valued-2.ensures) c.put_valued-3.ensures) c.put_valued-4.ensures) c.put_valued-5.ensures) c.put_valued-6.ensures) c.put_valued-7.ensures) c.put_word.ensures)
