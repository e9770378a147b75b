use Rattle.text_lines.proofs.PutTexts.{puts-then}
use Rattle.seen_sids.proofs.seen_text.put_numbers.Goals as goal

pub returns-in-Some : goal.returns-in-Some
returns-in-Some g c =
    rw c.in-Some.is
    (rw (c.from.ensures, c.from-in-Some.ensures) at (puts-then g.O.PutText.after (puts-then g.O.PutText.after (puts-then g.O.PutText.after c.put_word-in-Some.ensures c.put_spaced.ensures)
    c.put_word-in-Some-2.ensures) c.put_spaced-in-Some.ensures))
