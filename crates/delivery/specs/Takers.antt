-- What a contract sees of a taker.
use Rattle.std.specs.Prelude.{ℕ, Bool, List, [], ◌∷◌, length}
use Rattle.rtrb.specs.Ring.{received, known_items}
use Rattle.delivery.specs.RingName.{RingName}
use Rattle.delivery.specs.Frames as frames
use Rattle.delivery.specs.Parcels.{frames_of}
use Rattle.delivery.specs.declared.taker.Taker.{Taker}
use Rattle.delivery.specs.declared.taker.Took.{Took}
use Rattle.delivery.specs.declared.taker.Took.TheVariants.{Frame, NothingYet, Closed}

-- the ring that it came with
abbrev pub taker_ring : Taker → RingName
taker_ring t = (t.ring.end.words, t.ring.end.slots, t.ring.end.names)

-- every frame that was taken, in order
abbrev pub taken : Taker → List frames.Frame
taken t = frames_of (received t.ring)

-- it has answered `Closed`
abbrev pub is_closed : Taker → Bool
is_closed t = t.closed

-- how many frames and end marks it knows to lie in the ring; there may be more
abbrev pub known : Taker → ℕ
known t = length (known_items t.ring)

-- the frames that an answer of `take` gives: one or none
abbrev pub frames_given : Took → List frames.Frame
frames_given (Frame bytes) = bytes.items ∷ []
frames_given NothingYet = []
frames_given Closed = []
