use Rattle.std.proofs.Common.{◌≡◌, ◌+◌, ◌≤◌, ◌++◌, List, length}
use Rattle.delivery.specs.Frames.{Frame}
use Rattle.delivery.specs.Feeders.{feeder_ring, offered, backlog, room}
use Rattle.delivery.proofs.feeder.Feeder.flush.Given as goal

abbrev pub invariant-loop-self : goal.invariant-loop-self
invariant-loop-self l =
    (feeder_ring l.self ≡ feeder_ring l.fn.self) × (offered l.self ≡ offered l.fn.self)
    × ((moved : List Frame) × (backlog l.fn.self ≡ moved ++ backlog l.self) × (room l.fn.self ≤ room l.self + length moved))

abbrev pub decreases-loop-self : goal.decreases-loop-self
decreases-loop-self l = length (backlog l.self)
