use Rattle.text_lines.proofs.PutTexts.{puts-then}
use Rattle.seen_sids.proofs.seen_text.put_seen.Goals as goal

pub returns : goal.returns
returns g c =
    let rows = rw c.deref.ensures.value at c.put_rows.ensures in
    puts-then g.O.PutText.after (puts-then g.O.PutText.after c.put_word.ensures rows) c.put_others.ensures
