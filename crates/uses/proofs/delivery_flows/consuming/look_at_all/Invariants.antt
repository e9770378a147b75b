use Rattle.std.proofs.Common.{◌≡◌, ◌<◌, ℕ, true, get_or}
use Rattle.delivery.specs.Takers.{is_closed}
use Rattle.uses.specs.DeliveryFlows.{served_rings}
use Rattle.uses.specs.declared.delivery_flows.consumed.Look.TheVariants.{Closed}
use Rattle.uses.proofs.delivery_flows.consuming.look_at_all.Given as goal

abbrev pub invariant-loop-consumed : goal.invariant-loop-consumed
invariant-loop-consumed l =
    (served_rings l.all ≡ served_rings l.fn.all) × (l.found ≡ Closed → (k : ℕ) (d : _) → k < l.consumed-index → is_closed (get_or l.all k d).taker ≡ true)
