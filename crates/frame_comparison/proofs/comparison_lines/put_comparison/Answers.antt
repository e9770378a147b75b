use Rattle.text_lines.proofs.PutTexts.{puts-then}
use Rattle.frame_comparison.proofs.comparison_lines.put_comparison.Goals as goal

pub returns : goal.returns
returns g c =
    let flows = rw c.counts.ensures at c.put_all_flows.ensures in
    let analyser = rw c.lonely.ensures at c.put_all_missing.ensures in
    let here = rw c.lonely-2.ensures at c.put_all_here.ensures in
    let whole = rw c.is_whole.ensures at c.put_whole.ensures in
    puts-then g.O.PutText.after (puts-then g.O.PutText.after (puts-then g.O.PutText.after (puts-then g.O.PutText.after c.put_word.ensures flows) analyser) here) whole
