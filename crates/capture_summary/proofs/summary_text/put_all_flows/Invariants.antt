use Rattle.std.proofs.Common.{take}
use Rattle.std.specs.Prelude.{flat_map}
use Rattle.text_lines.specs.Putting.{Puts}
use Rattle.capture_summary.specs.SummaryText.{flow_text}
use Rattle.capture_summary.proofs.summary_text.put_all_flows.Given as goal

abbrev pub invariant-loop-flow : goal.invariant-loop-flow
invariant-loop-flow g l = Puts g.O.PutText.after l.fn.out (flat_map flow_text (take l.flow-index l.flows)) l.out
