use Rattle.std.proofs.Common.{◌≡◌}
use Rattle.delivery.specs.Feeders.{feeder_ring, offered}
use Rattle.workers.proofs.feeders.empty_backlog.Given as goal

abbrev pub invariant-loop : goal.invariant-loop
invariant-loop g l = (feeder_ring l.feeder ≡ feeder_ring l.fn.feeder) × (offered l.feeder ≡ offered l.fn.feeder)
