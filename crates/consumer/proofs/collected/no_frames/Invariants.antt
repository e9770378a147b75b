-- So many lists are there, each empty.
use Rattle.consumer.specs.Collecting.{AreEmpty}
use Rattle.consumer.proofs.collected.no_frames.Given as goal

abbrev pub invariant-loop : goal.invariant-loop
invariant-loop l = AreEmpty l.counter l.lists.items
