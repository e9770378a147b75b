-- The receiver goes on receiving.
use Rattle.receiver.specs.Receiving.{IsReceiving}
use Rattle.worked_receivers.proofs.wide.send_some.Given as goal

abbrev pub invariant-loop-sender : goal.invariant-loop-sender
invariant-loop-sender g l = IsReceiving g.C.HeaderCheck.accepts l.receiver
