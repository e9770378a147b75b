use Rattle.std.proofs.Common.{◌≡◌, ◌++◌, ◌∷◌, []}
use Rattle.delivery.specs.Feeders.{feeder_ring, offered}
use Rattle.uses.proofs.handed_on.hand_on.Given as goal

-- the frame is offered, and nothing else
abbrev pub invariant-loop : goal.invariant-loop
invariant-loop g l = (feeder_ring l.feeder ≡ feeder_ring l.fn.feeder) × (offered l.feeder ≡ offered l.fn.feeder ++ l.fn.frame.items ∷ [])
