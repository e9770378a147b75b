use Rattle.std.proofs.Common.{◌≡◌}
use Rattle.uses.specs.DeliveryFlows.{served_rings}
use Rattle.uses.proofs.delivery_flows.consuming.take_all.Given as goal

abbrev pub invariant-loop : goal.invariant-loop
invariant-loop g l = served_rings l.all.items ≡ served_rings l.fn.all.items
