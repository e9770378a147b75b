use Rattle.std.proofs.Common.{take}
use Rattle.text_lines.specs.Putting.{Puts}
use Rattle.capture_picture.specs.PictureText.{entries_text}
use Rattle.capture_picture.proofs.picture_text.put_entries.Given as goal

abbrev pub invariant-loop-place : goal.invariant-loop-place
invariant-loop-place g l = Puts g.O.PutText.after l.fn.out (entries_text (take l.place l.channels)) l.out
