use Rattle.std.proofs.Common.{length}
use Rattle.texts.proofs.PutSoFar.{SpelledSoFar}
use Rattle.texts.proofs.cut.put_payload.Given as goal

abbrev pub invariant-loop-part : goal.invariant-loop-part
invariant-loop-part g l = SpelledSoFar g.O.PutText.after l.fn.segment.payload l.parts.payload l.initial.out l.out

abbrev pub decreases-loop-part : goal.decreases-loop-part
decreases-loop-part g l = length l.parts.payload
