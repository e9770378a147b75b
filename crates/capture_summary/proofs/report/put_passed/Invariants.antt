use Rattle.std.proofs.Common.{take}
use Rattle.std.specs.Prelude.{flat_map}
use Rattle.text_lines.specs.Putting.{Puts}
use Rattle.capture_summary.specs.Counting.{count_of_reason}
use Rattle.capture_summary.specs.Report.{passed_line}
use Rattle.capture_summary.proofs.report.put_passed.Given as goal

abbrev pub invariant-loop-why : goal.invariant-loop-why
invariant-loop-why g l = Puts g.O.PutText.after l.fn.out (flat_map (λ why. passed_line why (count_of_reason l.passed why)) (take l.why-index l.reasons)) l.out
