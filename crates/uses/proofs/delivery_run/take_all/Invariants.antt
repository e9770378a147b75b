use Rattle.std.proofs.Common.{◌≡◌}
use Rattle.delivery.specs.Takers.{taker_ring, taken}
use Rattle.uses.specs.DeliveryRun.{Gathers}
use Rattle.uses.proofs.delivery_run.take_all.Given as goal

abbrev pub invariant-loop : goal.invariant-loop
invariant-loop g l = (taker_ring l.taker ≡ taker_ring l.fn.taker) × Gathers (taken l.fn.taker) (taken l.taker) l.frames
