use Rattle.text_lines.proofs.PutTexts.{puts-then}
use Rattle.frame_comparison.proofs.comparison_lines.put_missing.Goals as goal

pub returns : goal.returns
returns g c =
    let reason = rw c.reason_at.ensures at c.put_told_reason.ensures in
    puts-then g.O.PutText.after (puts-then g.O.PutText.after c.put_lonely.ensures reason) c.put_word.ensures
