use Rattle.std.proofs.Common.{sym, ◌∙◌}
use Rattle.text_lines.proofs.PutTexts.{puts-then}
use Rattle.frame_comparison.proofs.comparison_lines.put_flow.Goals as goal

pub returns : goal.returns
returns g c =
    let sfid = rw c.sfid_of.ensures at c.put_sfid.ensures in
    rw (sym c.is_quiet.ensures ∙ c.if-is_quiet.false)
    (puts-then g.O.PutText.after (puts-then g.O.PutText.after (puts-then g.O.PutText.after c.put_word.ensures c.put_number.ensures) sfid) c.put_counts.ensures)
