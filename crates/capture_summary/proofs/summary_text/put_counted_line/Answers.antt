use Rattle.std.proofs.lemmas.Bool.{ne_eqb}
use Rattle.capture_summary.proofs.summary_text.put_counted_line.Goals as goal

pub returns : goal.returns
returns g c = rw (ne_eqb c.args.count 0 c.if-count-eq0.false) c.put_named_line.ensures
