use Rattle.std.proofs.Common.{◌≡◌, ◌++◌, []}
use Rattle.std.specs.Prelude.{All}
use Rattle.std.specs.Vec.Iter.{into_iter_items}
use Rattle.delivery.specs.Takers.{taken}
use Rattle.uses.specs.DeliveryFlows.{rings, served_rings}
use Rattle.uses.proofs.delivery_flows.consuming.begin.Given as goal

abbrev pub invariant-loop-taker : goal.invariant-loop-taker
invariant-loop-taker l =
    (served_rings l.all.items ++ rings (into_iter_items l.taker-iterator) ≡ rings l.fn.takers.items) × All (λ taker. taken taker ≡ []) (into_iter_items l.taker-iterator)
