-- The receiver goes on receiving.
use Rattle.receiver.specs.Receiving.{IsReceiving}
use Rattle.worked_receivers.proofs.looks.failed_allocations.take_all_once.Given as goal

abbrev pub invariant-loop-step : goal.invariant-loop-step
invariant-loop-step g l = IsReceiving g.C.HeaderCheck.accepts l.receiver
