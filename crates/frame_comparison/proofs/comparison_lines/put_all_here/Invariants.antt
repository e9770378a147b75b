use Rattle.std.proofs.Common.{take}
use Rattle.std.specs.Prelude.{flat_map}
use Rattle.text_lines.specs.Putting.{Puts}
use Rattle.frame_comparison.specs.ComparisonText.{here_line}
use Rattle.frame_comparison.proofs.comparison_lines.put_all_here.Given as goal

abbrev pub invariant-loop-frame : goal.invariant-loop-frame
invariant-loop-frame g l = Puts g.O.PutText.after l.fn.out (flat_map here_line (take l.frame-index l.frames)) l.out
