use Rattle.std.proofs.lemmas.Bool.{ne_eqb}
use Rattle.text_lines.proofs.PutTexts.{puts-then}
use Rattle.capture_picture.proofs.picture_text.put_others.Goals as goal

pub returns : goal.returns
returns g c =
    rw (ne_eqb c.args.others 0 c.if-others-eq0.false)
    (rw c.saturating_sub.ensures at (puts-then g.O.PutText.after (puts-then g.O.PutText.after c.put_valued.ensures c.put_valued-2.ensures) c.put_word.ensures))
