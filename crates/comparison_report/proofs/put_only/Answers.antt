use Rattle.text_lines.proofs.PutTexts.{puts-then}
use Rattle.comparison_report.proofs.put_only.Goals as goal

pub returns : goal.returns
returns g c =
    let hex = rw c.deref.ensures.value at c.put_hex_field.ensures in
    rw (← c.frame.view_is)
    (puts-then g.O.PutText.after (puts-then g.O.PutText.after (puts-then g.O.PutText.after (puts-then g.O.PutText.after (puts-then g.O.PutText.after c.put_word.ensures c.put_spaced.ensures) c.put_spaced-2.ensures) c.put_spaced-3.ensures) c.put_word-2.ensures) hex)
