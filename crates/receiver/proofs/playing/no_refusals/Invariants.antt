-- So many lists are there, each empty.
use Rattle.consumer.specs.Collecting.{AreEmpty}
use Rattle.receiver.proofs.playing.no_refusals.Given as goal

abbrev pub invariant-loop : goal.invariant-loop
invariant-loop l = AreEmpty l.counter l.refused.items
