use Rattle.std.proofs.Common.{take}
use Rattle.text_lines.specs.Putting.{Puts, numbered_texts}
use Rattle.frame_comparison.specs.ComparisonText.{missing_line}
use Rattle.frame_comparison.proofs.comparison_lines.put_all_missing.Given as goal

abbrev pub invariant-loop-place : goal.invariant-loop-place
invariant-loop-place g l = Puts g.O.PutText.after l.fn.out (numbered_texts (missing_line l.reasons) (take l.place l.frames)) l.out
