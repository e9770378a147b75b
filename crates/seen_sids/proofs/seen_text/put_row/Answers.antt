use Rattle.text_lines.proofs.PutTexts.{puts-then}
use Rattle.seen_sids.proofs.seen_text.put_row.Goals as goal

pub returns : goal.returns
returns g c = rw c.twin_of.ensures at (puts-then g.O.PutText.after (puts-then g.O.PutText.after (puts-then g.O.PutText.after (puts-then g.O.PutText.after (puts-then g.O.PutText.after (puts-then g.O.PutText.after (puts-then g.O.PutText.after (puts-then g.O.PutText.after (c.put_word.ensures) c.put_sid.ensures) c.put_word-2.ensures) c.put_spaced.ensures) c.put_word-3.ensures) c.put_spaced-2.ensures) c.put_numbers.ensures) c.put_twin.ensures) c.put_word-4.ensures)
