-- What a contract sees of a feeder, open or closed.
use Rattle.std.specs.Prelude.{◌≡◌, ℕ, ◌+◌, ◌≤◌, ◌⊎◌, List, [], ◌∷◌, ◌++◌, length}
use Rattle.rtrb.specs.Ring.{sent, known_free}
use Rattle.delivery.specs.RingName.{RingName}
use Rattle.delivery.specs.Frames.{Frame, frames_in}
use Rattle.delivery.specs.Parcels.{frames_of}
use Rattle.delivery.specs.declared.feeder.Feeder.{Feeder}
use Rattle.delivery.specs.declared.feeder.ClosedFeeder.{ClosedFeeder}

-- the ring that it came with
abbrev pub feeder_ring : Feeder → RingName
feeder_ring f = (f.producer.end.words, f.producer.end.slots, f.producer.end.names)

-- the frames that have not yet gone into the ring, in order
abbrev pub backlog : Feeder → List Frame
backlog f = frames_in f.backlog.items

-- every frame that was offered and not refused, in order
abbrev pub offered : Feeder → List Frame
offered f = frames_of (sent f.producer) ++ backlog f

-- how many places of the ring it knows to be free; there may be more
abbrev pub room : Feeder → ℕ
room f = known_free f.producer

-- the ring of a closed feeder
abbrev pub closed_ring : ClosedFeeder → RingName
closed_ring f = (f.producer.end.words, f.producer.end.slots, f.producer.end.names)

-- every frame that was offered before it was closed, in order
abbrev pub closed_offered : ClosedFeeder → List Frame
closed_offered f = frames_of (sent f.producer)

-- a frame went into the ring, with no other before it in the backlog; or it went to the end of the
-- backlog, since frames were waiting there or no place was known to be free
abbrev pub IsPlaced : Feeder → Feeder → Frame → Type 0
IsPlaced old new frame =
    ((backlog old ≡ []) × (backlog new ≡ []) × (room old ≤ room new + 1))
    ⊎ ((backlog new ≡ backlog old ++ frame ∷ []) × (backlog old ≡ [] → room new ≡ 0) × (room old ≤ room new))

-- nothing was offered or moved, and no place that was known to be free is lost
pub record IsUnchanged (old new : Feeder) : Type 0 where
  pub offered_same : offered new ≡ offered old
  pub backlog_same : backlog new ≡ backlog old
  pub room_kept : room old ≤ room new

-- frames went from the front of the backlog into the ring, until the backlog was empty or no place
-- was known to be free
pub record IsFlushed (old new : Feeder) : Type 0 where
  pub moved : List Frame
  pub front : backlog old ≡ moved ++ backlog new
  pub until : (backlog new ≡ []) ⊎ (room new ≡ 0)
  pub places : room old ≤ room new + length moved
