use Rattle.std.proofs.Common.{take}
use Rattle.text_lines.specs.Putting.{Puts, numbered_texts}
use Rattle.capture_summary.specs.Report.{flow_lines}
use Rattle.capture_summary.proofs.report.put_all_flows.Given as goal

abbrev pub invariant-loop-k : goal.invariant-loop-k
invariant-loop-k g l = Puts g.O.PutText.after l.fn.out (numbered_texts flow_lines (take l.k l.flows)) l.out
