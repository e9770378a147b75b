use Rattle.text_lines.proofs.PutTexts.{puts-then}
use Rattle.burst_fates.proofs.words.put_fate.Goals as goal

pub returns : goal.returns
returns g c =
    let words = rw c.fate_for_people.ensures at c.put_word.ensures in
    let refusal = rw c.refusal_for_people.ensures at c.put_word-2.ensures in
    puts-then g.O.PutText.after words refusal
