use Rattle.std.proofs.Common.{take}
use Rattle.std.specs.Prelude.{flat_map}
use Rattle.text_lines.specs.Putting.{Puts}
use Rattle.capture_summary.specs.Counting.{count_of_reason}
use Rattle.capture_summary.specs.SummaryText.{reason_line}
use Rattle.capture_summary.proofs.summary_text.put_all_reasons.Given as goal

abbrev pub invariant-loop-why : goal.invariant-loop-why
invariant-loop-why g l = Puts g.O.PutText.after l.fn.out (flat_map (λ why. reason_line why (count_of_reason l.passed why)) (take l.why-index l.reasons)) l.out
