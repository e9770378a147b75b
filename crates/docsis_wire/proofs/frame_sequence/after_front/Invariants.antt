use Rattle.std.proofs.Common.{◌≤◌, length}
use Rattle.docsis_wire.specs.Checks.{frame_generator}
use Rattle.docsis_wire.specs.Inside.Pending.{to_add}
use Rattle.docsis_wire.proofs.Dividing.{IsLeftOf}
use Rattle.docsis_wire.proofs.frame_sequence.after_front.Given as goal

abbrev pub invariant-loop-rest : goal.invariant-loop-rest
invariant-loop-rest l = record { left : IsLeftOf frame_generator l.fn.remainder l.bytes (to_add l.pending) l.rest; enough : 48 ≤ length l.rest }

abbrev pub decreases-loop-rest : goal.decreases-loop-rest
decreases-loop-rest l = length l.rest
