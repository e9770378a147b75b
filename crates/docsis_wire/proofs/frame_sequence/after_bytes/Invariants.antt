use Rattle.std.proofs.Common.{length}
use Rattle.docsis_wire.specs.Checks.{frame_generator}
use Rattle.docsis_wire.proofs.Dividing.{IsLeftOf}
use Rattle.docsis_wire.proofs.frame_sequence.after_bytes.Given as goal

abbrev pub invariant-loop-low : goal.invariant-loop-low
invariant-loop-low l = IsLeftOf frame_generator l.fn.remainder l.bytes l.remainder l.rest

abbrev pub decreases-loop-low : goal.decreases-loop-low
decreases-loop-low l = length l.rest
