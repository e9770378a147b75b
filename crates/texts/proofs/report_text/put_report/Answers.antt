use Rattle.std.proofs.Common.{List, ℕ, subst}
use Rattle.text_lines.specs.Putting.{Puts}
use Rattle.texts.proofs.SelectedLines.{report_of-all}
use Rattle.texts.proofs.report_text.put_report.Goals as goal

pub returns : goal.returns
returns g c = subst (λ (text : List ℕ). Puts g.O.PutText.after c.args.out.now text c.put_report_of.new.out) (report_of-all c.args.outcome.now) c.put_report_of.ensures
