use Rattle.std.proofs.Common.{take}
use Rattle.text_lines.specs.Putting.{Puts}
use Rattle.capture_picture.specs.Panel.{mark_rows}
use Rattle.capture_picture.proofs.panel.put_mark_rows.Given as goal

abbrev pub invariant-loop-mark : goal.invariant-loop-mark
invariant-loop-mark g l = Puts g.O.PutText.after l.fn.out (mark_rows l.grid l.columns (take l.mark-index l.marks)) l.out
