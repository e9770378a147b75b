use Rattle.text_lines.proofs.PutTexts.{puts-then}
use Rattle.comparison_report.proofs.put_comparison_report.Goals as goal

pub returns : goal.returns
returns g c =
    let compared = rw c.counts.ensures at c.put_all_flows.ensures in
    let analyser = rw c.lonely.ensures at c.put_all_missing.ensures in
    let here = rw c.lonely-2.ensures at c.put_all_here.ensures in
    let last = rw c.is_whole.ensures at c.put_last.ensures in
    puts-then g.O.PutText.after (puts-then g.O.PutText.after (puts-then g.O.PutText.after compared analyser) here) last
