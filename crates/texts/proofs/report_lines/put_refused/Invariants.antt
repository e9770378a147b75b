use Rattle.std.proofs.Common.{take}
use Rattle.std.specs.Prelude.{flat_map}
use Rattle.text_lines.specs.Putting.{Puts, spaced}
use Rattle.texts.proofs.report_lines.put_refused.Given as goal

abbrev pub invariant-loop-number : goal.invariant-loop-number
invariant-loop-number g l = Puts g.O.PutText.after l.fn.out (flat_map spaced (take l.number-index l.refused)) l.out
