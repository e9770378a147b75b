use Rattle.std.proofs.Common.{take}
use Rattle.std.specs.Prelude.{flat_map}
use Rattle.text_lines.specs.Putting.{Puts}
use Rattle.lane.specs.Report.{refusal_number}
use Rattle.capture_summary.specs.Counting.{count_of_refusal}
use Rattle.capture_summary.specs.Report.{counted_refusal}
use Rattle.capture_summary.proofs.report.put_all_refusals.Given as goal

abbrev pub invariant-loop-refusal : goal.invariant-loop-refusal
invariant-loop-refusal g l = Puts g.O.PutText.after l.fn.out (flat_map (λ refusal. counted_refusal (refusal_number refusal) (count_of_refusal l.refused refusal)) (take l.refusal-index l.refusals)) l.out
