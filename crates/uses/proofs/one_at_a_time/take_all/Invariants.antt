-- The inputs so far are taken.
use Rattle.receiver.specs.Receiving.{IsReceiving}
use Rattle.uses.specs.OneAtATime.{TakesInputs}
use Rattle.uses.proofs.one_at_a_time.take_all.Given as goal

abbrev pub invariant-loop-channel : goal.invariant-loop-channel
invariant-loop-channel g l = record {
  takes : TakesInputs g.O.Consumer.after g.C.HeaderCheck.accepts l.fn.receiver l.fn.out l.yielded l.receiver l.out;
  receiving : IsReceiving g.C.HeaderCheck.accepts l.receiver;
}
