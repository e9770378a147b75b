-- Takers that one thread serves in turn.
use Rattle.std.specs.Prelude.{◌≡◌, ℕ, true, List, map, Vec}
use Rattle.delivery.specs.RingName.{RingName}
use Rattle.std.specs.declared.alloc.Global.{Global}
use Rattle.delivery.specs.Frames.{Frame, frames_in}
use Rattle.delivery.specs.Feeders.{closed_ring, closed_offered}
use Rattle.delivery.specs.Takers.{taker_ring, is_closed}
use Rattle.delivery.specs.declared.feeder.ClosedFeeder.{ClosedFeeder}
use Rattle.delivery.specs.declared.taker.Taker.{Taker}
use Rattle.uses.specs.declared.delivery_flows.consumed.Consumed.{Consumed}
use Rattle.uses.specs.declared.delivery_flows.consumed.Look.{Look}
use Rattle.uses.specs.declared.delivery_flows.consumed.Look.TheVariants.{Took, NothingYet, Closed}

-- a look that found `Closed` leaves a taker that has answered so
abbrev pub Sees : Look → Consumed → Type 0
Sees Closed consumed = is_closed consumed.taker ≡ true
Sees Took consumed = Unit {0}
Sees NothingYet consumed = Unit {0}

-- the rings of the takers, in order
abbrev pub rings : List Taker → List RingName
rings takers = map taker_ring takers

abbrev pub served_rings : List Consumed → List RingName
served_rings all = map (λ consumed. taker_ring consumed.taker) all

-- the rings of the feeders, in order
abbrev pub closed_rings : List ClosedFeeder → List RingName
closed_rings feeders = map closed_ring feeders

-- what each feeder offered, in order
abbrev pub all_offered : List ClosedFeeder → List (List Frame)
all_offered feeders = map closed_offered feeders

-- the frames of each flow, in order
abbrev pub frames_of_all : List (Vec (Vec ℕ Global) Global) → List (List Frame)
frames_of_all flows = map (λ flow. frames_in flow.items) flows
