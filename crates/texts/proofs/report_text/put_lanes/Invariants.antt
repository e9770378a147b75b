use Rattle.std.proofs.Common.{take}
use Rattle.text_lines.specs.Putting.{Puts, numbered_texts}
use Rattle.texts.specs.Report.{lane_line}
use Rattle.texts.proofs.report_text.put_lanes.Given as goal

abbrev pub invariant-loop-channel : goal.invariant-loop-channel
invariant-loop-channel g l = Puts g.O.PutText.after l.fn.out (numbered_texts lane_line (take l.channel l.lanes)) l.out
