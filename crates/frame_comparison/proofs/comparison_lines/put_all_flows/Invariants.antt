use Rattle.std.proofs.Common.{take}
use Rattle.text_lines.specs.Putting.{Puts, numbered_texts}
use Rattle.frame_comparison.specs.ComparisonText.{flow_line}
use Rattle.frame_comparison.proofs.comparison_lines.put_all_flows.Given as goal

abbrev pub invariant-loop-flow : goal.invariant-loop-flow
invariant-loop-flow g l = Puts g.O.PutText.after l.fn.out (numbered_texts (flow_line l.sfids) (take l.flow l.counts)) l.out
