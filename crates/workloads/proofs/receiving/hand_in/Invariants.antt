use Rattle.receiver.specs.Receiving.{IsReceiving}
use Rattle.workloads.proofs.receiving.hand_in.Given as goal

abbrev pub invariant-loop-one : goal.invariant-loop-one
invariant-loop-one g l = IsReceiving g.C.HeaderCheck.accepts l.receiver
