-- Nothing was taken of the ring so far.
use Rattle.std.specs.Prelude.{◌≡◌}
use Rattle.rtrb.specs.Ring.{received, SameConsumer}
use Rattle.workers.proofs.worker.next_word.Given as goal

abbrev pub invariant-loop : goal.invariant-loop
invariant-loop g l = SameConsumer l.fn.words l.words × (received l.words ≡ received l.fn.words)
