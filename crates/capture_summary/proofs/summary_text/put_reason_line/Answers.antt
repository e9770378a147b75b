use Rattle.std.proofs.lemmas.Bool.{ne_eqb}
use Rattle.text_lines.proofs.PutTexts.{puts-then}
use Rattle.capture_summary.proofs.summary_text.put_reason_line.Goals as goal

pub returns : goal.returns
returns g c = rw (ne_eqb c.args.count 0 c.if-count-eq0.false) (rw c.text.ensures at (puts-then g.O.PutText.after c.put_word.ensures c.put_named_line.ensures))
