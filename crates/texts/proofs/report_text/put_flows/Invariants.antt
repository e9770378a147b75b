use Rattle.std.proofs.Common.{take}
use Rattle.text_lines.specs.Putting.{Puts, numbered_texts}
use Rattle.texts.specs.Inside.Selected.{selected_flow_lines}
use Rattle.texts.proofs.report_text.put_flows.Given as goal

abbrev pub invariant-loop-k : goal.invariant-loop-k
invariant-loop-k g l = Puts g.O.PutText.after l.fn.out (numbered_texts (selected_flow_lines l.selected) (take l.k l.flows)) l.out
