use Rattle.std.proofs.Common.{take}
use Rattle.text_lines.specs.Putting.{Puts, numbered_texts}
use Rattle.comparison_report.specs.ReportLines.{flow_line}
use Rattle.comparison_report.proofs.put_all_flows.Given as goal

abbrev pub invariant-loop-flow : goal.invariant-loop-flow
invariant-loop-flow g l = Puts g.O.PutText.after l.fn.out (numbered_texts flow_line (take l.flow l.counts)) l.out
