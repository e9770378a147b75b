-- The receiver goes on receiving.
use Rattle.receiver.specs.Receiving.{IsReceiving}
use Rattle.worked_inputs.proofs.taking_turns.feed_in_turn.Given as goal

abbrev pub invariant-loop-line : goal.invariant-loop-line
invariant-loop-line g l = record {
  one : IsReceiving g.C.HeaderCheck.accepts l.first.receiver;
  other : IsReceiving g.C.HeaderCheck.accepts l.second.receiver;
}
