use Rattle.receiver.specs.Receiving.{IsReceiving}
use Rattle.workloads.proofs.receiving.hand_in_all.Given as goal

abbrev pub invariant-loop : goal.invariant-loop
invariant-loop g l = IsReceiving g.C.HeaderCheck.accepts l.receiver
