-- Each of the two has taken its inputs of the turns so far.
use Rattle.std.proofs.Common.{map}
use Rattle.receiver.specs.Receiving.{IsReceiving}
use Rattle.uses.specs.OneAtATime.{TakesInputs}
use Rattle.uses.proofs.two_receivers.take_in_turn.Given as goal

abbrev pub invariant-loop-one : goal.invariant-loop-one
invariant-loop-one g l = record {
  first : TakesInputs g.O.Consumer.after g.C.HeaderCheck.accepts l.fn.first l.fn.first_out (map (λ turn. turn.0) l.yielded) l.first l.first_out;
  second : TakesInputs g.O.Consumer.after g.C.HeaderCheck.accepts l.fn.second l.fn.second_out (map (λ turn. turn.1) l.yielded) l.second l.second_out;
  receiving : IsReceiving g.C.HeaderCheck.accepts l.first;
  both : IsReceiving g.C.HeaderCheck.accepts l.second;
}
