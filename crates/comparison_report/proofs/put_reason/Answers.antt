use Rattle.text_lines.proofs.PutTexts.{puts-then}
use Rattle.comparison_report.proofs.put_reason.Goals as goal

pub returns : goal.returns
returns g c =
    let word = rw c.word.ensures at c.put_word-3.ensures in
    let burst = rw c.burst.ensures at c.put_burst_field.ensures in
    rw c.in-Some.is (puts-then g.O.PutText.after (puts-then g.O.PutText.after (puts-then g.O.PutText.after c.put_word-2.ensures word) c.put_word-4.ensures) burst)
