use Rattle.std.proofs.Common.{take}
use Rattle.text_lines.specs.Putting.{Puts}
use Rattle.capture_picture.specs.Panel.{mark_strokes}
use Rattle.capture_picture.proofs.panel.put_mark_strokes.Given as goal

abbrev pub invariant-loop-at : goal.invariant-loop-at
invariant-loop-at g l = Puts g.O.PutText.after l.fn.out (mark_strokes l.grid (take l.at l.columns) l.mark) l.out
