use Rattle.std.proofs.Common.{take}
use Rattle.std.specs.Prelude.{flat_map}
use Rattle.text_lines.specs.Putting.{Puts}
use Rattle.capture_summary.specs.Words.{named}
use Rattle.capture_summary.proofs.named_numbers.put_all_named.Given as goal

abbrev pub invariant-loop-part : goal.invariant-loop-part
invariant-loop-part g l = Puts g.O.PutText.after l.fn.out (flat_map (λ part. named part.0.now part.1) (take l.part-index l.parts)) l.out
