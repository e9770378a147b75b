use Rattle.std.proofs.Common.{List, ℕ, subst, sym}
use Rattle.text_lines.specs.Putting.{Puts}
use Rattle.text_lines.proofs.PutTexts.{puts-then}
use Rattle.texts.proofs.SelectedLines.{report_of-flows}
use Rattle.texts.proofs.report_text.put_report_of.Goals as goal

pub returns : goal.returns
returns g c =
    subst (λ (text : List ℕ). Puts g.O.PutText.after c.args.out.now text c.put_lanes.new.out) (sym (report_of-flows c.args.selected.now c.args.outcome.now))
    (rw c.deref.ensures.value at (puts-then g.O.PutText.after (puts-then g.O.PutText.after c.put_flows.ensures c.put_channels.ensures) c.put_lanes.ensures))
