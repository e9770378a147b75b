-- Bursts that leave in their turn.
use Rattle.std.specs.Prelude.{◌≡◌, ℕ, ◌+◌, ◌-◌, ◌<◌, ◌≤◌, ◌%◌, List, [], ◌∷◌, ◌++◌, All, AllPairs, length}
use Rattle.reorder.specs.Limits.{modulus, numbers_ahead}
use Rattle.capture_rules.specs.declared.arrival.Arrival.{Arrival}
use Rattle.capture_rules.specs.declared.arrival.HandedOn.{HandedOn}
use Rattle.capture_rules.specs.declared.arrival.Waiting.{Waiting}
use Rattle.capture_rules.specs.Clock.{clock_at}
use Rattle.capture_rules.specs.Order.{OrderView, most_waiting, Orders}

module _ {T : Type 0} where
  -- the bursts that come, each with what the flow's clock says then
  abbrev pub clocked : ℕ → ℕ → List (Arrival T) → List (Waiting T)
  clocked reorder clock [] = []
  clocked reorder clock (one ∷ more) = record { came = clock_at reorder clock one.time; arrival = one } ∷ clocked reorder (clock_at reorder clock one.time) more

-- In what follows `place` says where a burst stands on its channel: its number, counted on where
-- numbers begin again.
module _ {T : Type 0} (reorder : ℕ) (place : Arrival T → ℕ) where
  -- one stands no later than another of its channel
  abbrev pub InTurn : Arrival T → Arrival T → Type 0
  InTurn one other = other.channel ≡ one.channel → place one ≤ place other

  abbrev pub HasPlace : Arrival T → Type 0
  HasPlace one = one.number ≡ place one % modulus

  -- How one came before another, by the flow's clock: it isn't set back between them; in its turn,
  -- unless both came within `reorder`; and then they stand within half of all numbers on their
  -- channel.
  pub record CameBefore (earlier later : Waiting T) : Type 0 where
    pub times : earlier.came ≤ later.came
    pub turn : reorder < later.came - earlier.came → InTurn earlier.arrival later.arrival
    pub near : later.came - earlier.came ≤ reorder → later.arrival.channel ≡ earlier.arrival.channel
        → (place earlier.arrival < place later.arrival + numbers_ahead) × (place later.arrival < place earlier.arrival + numbers_ahead)

  -- **Bursts that came nearly in order**: those of a channel in the order of their numbers, but for
  -- such as came within `reorder` of one another.
  pub record CameNearlyInOrder (came : List (Arrival T)) : Type 0 where
    pub places : All (λ one. HasPlace one.arrival) (clocked reorder 0 came)
    pub pairs : AllPairs CameBefore (clocked reorder 0 came)

module _ {T : Type 0} where
  -- Fewer than `most_waiting` wait behind each of the bursts that come.
  abbrev pub FewWait : OrderView T → List (Arrival T) → Type 0
  FewWait order came = (front more : List (Arrival T)) (handed : List (HandedOn T)) (left : OrderView T) → came ≡ front ++ more → Orders order front handed left
      → length left.waiting < most_waiting
