use Rattle.std.proofs.Common.{drop, length}
use Rattle.docsis_wire.specs.Checks.{frame_generator}
use Rattle.docsis_wire.proofs.Dividing.{IsLeftOf}
use Rattle.docsis_wire.proofs.frame_sequence.after_few.Given as goal

abbrev pub invariant-loop-eight : goal.invariant-loop-eight
invariant-loop-eight l = IsLeftOf frame_generator l.fn.remainder l.few l.remainder l.rest

abbrev pub decreases-loop-eight : goal.decreases-loop-eight
decreases-loop-eight l = length l.rest

abbrev pub invariant-loop-byte : goal.invariant-loop-byte
invariant-loop-byte l = IsLeftOf frame_generator l.fn.remainder l.few l.remainder (drop l.byte-index l.byte-items)
