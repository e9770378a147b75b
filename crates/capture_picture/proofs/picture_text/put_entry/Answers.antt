use Rattle.text_lines.proofs.PutTexts.{puts-then}
use Rattle.capture_picture.proofs.picture_text.put_entry.Goals as goal

pub returns : goal.returns
returns g c = rw (c.from.ensures, c.from-2.ensures) at (puts-then g.O.PutText.after (puts-then g.O.PutText.after (puts-then g.O.PutText.after (puts-then g.O.PutText.after (puts-then g.O.PutText.after (puts-then g.O.PutText.after c.put_valued.ensures c.put_valued-2.ensures) c.put_word.ensures) (rw c.colour_of.ensures at c.put.ensures)) c.put_valued-3.ensures) c.put_valued-4.ensures) c.put_word-2.ensures)
