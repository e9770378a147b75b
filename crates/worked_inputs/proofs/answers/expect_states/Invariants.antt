-- The receiver goes on receiving.
use Rattle.receiver.specs.Receiving.{IsReceiving}
use Rattle.worked_inputs.proofs.answers.expect_states.Given as goal

abbrev pub invariant-loop-place : goal.invariant-loop-place
invariant-loop-place g l = IsReceiving g.C.HeaderCheck.accepts l.receiver
