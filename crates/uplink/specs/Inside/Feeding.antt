-- What the feeders of all flows were offered.
use Rattle.std.specs.Prelude.{◌≡◌, ℕ, ◌==◌, IsTrue, List, [], ◌∷◌, ◌++◌, map, slice_index_or, if◌then◌else◌}
use Rattle.consumer.specs.declared.given.Given.{Given}
use Rattle.consumer.specs.Given.{frames_of}
use Rattle.delivery.specs.RingName.{RingName}
use Rattle.delivery.specs.Feeders.{feeder_ring, offered, closed_offered}
use Rattle.delivery.specs.declared.feeder.Feeder.{Feeder}
use Rattle.delivery.specs.declared.feeder.ClosedFeeder.{ClosedFeeder}
use Rattle.uplink.specs.declared.feeding.Feeding.{Feeding}
use Rattle.uplink.specs.Fronts.{ComesFirstIn}

-- what the feeder of flow k was offered, and nothing where there is none
abbrev pub offered_to : List Feeder → ℕ → List (List ℕ)
offered_to feeders k = slice_index_or (map offered feeders) k []

-- the frame was offered to the feeder of this index, and to no other
abbrev pub Offers : List Feeder → ℕ → List ℕ → List Feeder → Type 0
Offers feeders flow frame feeders' =
    (k : ℕ) → offered_to feeders' k ≡ offered_to feeders k ++ (if flow == k then frame ∷ [] else [])

-- the rings of the feeders
abbrev pub rings_of : Feeding → List RingName
rings_of feeding = map feeder_ring feeding.feeders.items

-- The rings stay. If nothing is left out at the end, nothing was at the start, and each flow's
-- feeder was offered just the frames that were given of it. In any case it was offered those that
-- come first, and nothing once something was left out.
pub record HasOffered (start : Feeding) (given : List Given) (end : Feeding) : Type 0 where
  pub rings : rings_of end ≡ rings_of start
  pub front : (k : ℕ) → ComesFirstIn (offered_to end.feeders.items k) (offered_to start.feeders.items k ++ frames_of k given)
  pub halted : ¬ (IsTrue start.whole) → ¬ (IsTrue end.whole) × ((k : ℕ) → offered_to end.feeders.items k ≡ offered_to start.feeders.items k)
  pub offers : IsTrue end.whole → IsTrue start.whole × ((k : ℕ) → offered_to end.feeders.items k ≡ offered_to start.feeders.items k ++ frames_of k given)

-- each feeder was offered, once it is closed, what comes first of what was given of its flow
abbrev pub IsClosedAfter : List Feeder → List ClosedFeeder → List Given → Type 0
IsClosedAfter feeders closed given = (k : ℕ) → ComesFirstIn (slice_index_or (map closed_offered closed) k []) (offered_to feeders k ++ frames_of k given)
