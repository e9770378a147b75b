use Rattle.text_lines.proofs.PutTexts.{puts-then}
use Rattle.comparison_report.proofs.put_last.Goals as goal

pub returns : goal.returns
returns g c =
    let whole = rw c.whole_word.ensures at c.put_word-2.ensures in
    puts-then g.O.PutText.after (puts-then g.O.PutText.after (puts-then g.O.PutText.after (puts-then g.O.PutText.after c.put_word.ensures whole) c.put_word-3.ensures) c.put_spaced.ensures) c.put_word-4.ensures
