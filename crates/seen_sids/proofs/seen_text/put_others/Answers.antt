use Rattle.std.proofs.lemmas.Bool.{ne_eqb}
use Rattle.text_lines.proofs.PutTexts.{puts-then}
use Rattle.seen_sids.proofs.seen_text.put_others.Goals as goal

pub returns : goal.returns
returns g c =
    rw (ne_eqb c.args.others 0 c.if-others-eq0.false)
    (puts-then g.O.PutText.after (puts-then g.O.PutText.after c.put_word.ensures c.put_spaced.ensures) c.put_word-2.ensures)
