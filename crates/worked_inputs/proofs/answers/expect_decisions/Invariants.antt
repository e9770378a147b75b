-- The receiver goes on receiving.
use Rattle.receiver.specs.Receiving.{IsReceiving}
use Rattle.worked_inputs.proofs.answers.expect_decisions.Given as goal

abbrev pub invariant-loop-flow : goal.invariant-loop-flow
invariant-loop-flow g l = IsReceiving g.C.HeaderCheck.accepts l.receiver
