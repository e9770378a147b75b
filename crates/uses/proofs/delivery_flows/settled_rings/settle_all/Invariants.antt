use Rattle.std.proofs.Common.{◌≡◌, ◌++◌, true}
use Rattle.std.specs.Prelude.{All}
use Rattle.std.specs.Vec.Iter.{into_iter_items}
use Rattle.delivery.specs.Takers.{is_closed}
use Rattle.uses.specs.DeliveryFlows.{closed_rings, served_rings, all_offered, frames_of_all}
use Rattle.uses.proofs.delivery_flows.settled_rings.settle_all.Given as goal

abbrev pub invariant-loop-feeder : goal.invariant-loop-feeder
invariant-loop-feeder l =
    (closed_rings (into_iter_items l.feeder-iterator) ≡ served_rings (into_iter_items l.rest))
    × All (λ consumed. is_closed consumed.taker ≡ true) (into_iter_items l.rest)
    × (frames_of_all l.taken.items ++ all_offered (into_iter_items l.feeder-iterator) ≡ all_offered l.fn.feeders.items)
