use Rattle.text_lines.proofs.PutTexts.{puts-then}
use Rattle.frame_comparison.proofs.comparison_lines.put_lonely.Goals as goal

pub returns : goal.returns
returns g c =
    let hex = rw c.deref.ensures.value at c.put_hex.ensures in
    rw (← c.frame.view_is)
    (puts-then g.O.PutText.after (puts-then g.O.PutText.after (puts-then g.O.PutText.after (puts-then g.O.PutText.after (puts-then g.O.PutText.after (puts-then g.O.PutText.after (puts-then g.O.PutText.after c.put_word.ensures c.put_number.ensures) c.put_word-2.ensures) c.put_seconds.ensures) c.put_word-3.ensures) c.put_number-2.ensures) c.put_word-4.ensures) hex)
