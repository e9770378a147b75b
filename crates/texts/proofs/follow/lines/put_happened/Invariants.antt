use Rattle.std.proofs.Common.{take}
use Rattle.std.specs.Prelude.{flat_map}
use Rattle.text_lines.specs.Putting.{Puts}
use Rattle.texts.specs.Follow.{lines_told}
use Rattle.texts.proofs.follow.lines.put_happened.Given as goal

abbrev pub invariant-loop-one : goal.invariant-loop-one
invariant-loop-one g l = Puts g.O.PutText.after l.fn.out (flat_map (lines_told l.settings l.line) (take l.one-index l.happened)) l.out
