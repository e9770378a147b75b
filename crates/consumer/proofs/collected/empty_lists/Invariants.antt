-- So many lists are there, each empty.
use Rattle.consumer.specs.Collecting.{AreEmpty}
use Rattle.consumer.proofs.collected.empty_lists.Given as goal

abbrev pub invariant-loop : goal.invariant-loop
invariant-loop g l = AreEmpty l.counter l.lists.items
