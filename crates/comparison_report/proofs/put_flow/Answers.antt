use Rattle.std.proofs.Common.{sym, ◌∙◌}
use Rattle.text_lines.proofs.PutTexts.{puts-then}
use Rattle.comparison_report.proofs.put_flow.Goals as goal

pub returns : goal.returns
returns g c =
    rw (sym c.is_quiet.ensures ∙ c.if-is_quiet.false)
    (puts-then g.O.PutText.after (puts-then g.O.PutText.after (puts-then g.O.PutText.after (puts-then g.O.PutText.after (puts-then g.O.PutText.after (puts-then g.O.PutText.after (puts-then g.O.PutText.after (puts-then g.O.PutText.after c.put_word.ensures c.put_spaced.ensures) c.put_word-2.ensures) c.put_spaced-2.ensures) c.put_word-3.ensures) c.put_spaced-3.ensures) c.put_word-4.ensures) c.put_spaced-4.ensures) c.put_word-5.ensures)
