-- The receiver goes on receiving.
use Rattle.receiver.specs.Receiving.{IsReceiving}
use Rattle.worked_inputs.proofs.failed_allocations.take_all_again.Given as goal

abbrev pub invariant-loop-line : goal.invariant-loop-line
invariant-loop-line g l = IsReceiving g.C.HeaderCheck.accepts l.receiver
