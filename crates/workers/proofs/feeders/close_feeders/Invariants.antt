use Rattle.std.proofs.Common.{◌≡◌, ◌≤◌, ◌+◌, ◌++◌, length}
use Rattle.std.specs.Prelude.{map}
use Rattle.std.specs.Vec.Iter.{into_iter_items}
use Rattle.delivery.specs.Feeders.{feeder_ring, offered, closed_ring, closed_offered}
use Rattle.workers.proofs.feeders.close_feeders.Given as goal

abbrev pub invariant-loop-feeder : goal.invariant-loop-feeder
invariant-loop-feeder g l =
    (length l.closed.items + length (into_iter_items l.feeder-iterator) ≤ l.closed.cap)
    × (map closed_ring l.closed.items ++ map feeder_ring (into_iter_items l.feeder-iterator) ≡ map feeder_ring l.fn.feeders.items)
    × (map closed_offered l.closed.items ++ map offered (into_iter_items l.feeder-iterator) ≡ map offered l.fn.feeders.items)
