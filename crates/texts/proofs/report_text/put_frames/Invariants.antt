use Rattle.std.proofs.Common.{take}
use Rattle.std.specs.Prelude.{flat_map}
use Rattle.text_lines.specs.Putting.{Puts}
use Rattle.texts.specs.Report.{frame_line}
use Rattle.texts.proofs.report_text.put_frames.Given as goal

abbrev pub invariant-loop-index : goal.invariant-loop-index
invariant-loop-index g l = Puts g.O.PutText.after l.fn.out (flat_map (frame_line l.k) (take l.index l.frames.items)) l.out
