-- The order in which the bursts of one flow are handed on.
use Rattle.std.specs.Prelude.{◌≡◌, ℕ, ◌-◌, ◌<◌, ◌≤◌, ◌||◌, nat_lt, max, length, Bool, true, false, Option, None, Some, is_some, List, [], ◌∷◌, ◌++◌, map, slice_get, remove, option_to_list}
use Rattle.reorder.specs.Limits.{numbers_ahead}
use Rattle.reorder.specs.Number.{offset, number_ahead}
use Rattle.capture_rules.specs.declared.arrival.Arrival.{Arrival}
use Rattle.capture_rules.specs.declared.arrival.HandedOn.{HandedOn}
use Rattle.capture_rules.specs.declared.arrival.Waiting.{Waiting}
use Rattle.capture_rules.specs.declared.clock_counts.ClockCounts.{ClockCounts}
use Rattle.capture_rules.specs.Clock.{is_set_back, clock_at, none_counted, counts_after}

-- **So many bursts of a flow wait at most**, and make a beginning: with one more the next is handed
-- on, or the beginning is over.
abbrev pub most_waiting : ℕ
most_waiting = 2048

-- where a number stands among those from 4,096 before another one up to 4,095 after it
abbrev pub place_from : ℕ → ℕ → ℕ
place_from other number = offset other (number_ahead number numbers_ahead)

-- What is known of a flow's order: how long bursts wait, what its clock says and how often times
-- couldn't be gone by, and those that wait, in the order in which they came.
pub record OrderView (T : Type 0) : Type 0 where
  pub reorder : ℕ
  pub clock : ℕ
  pub counts : ClockCounts
  pub waiting : List (Waiting T)

module _ {T : Type 0} where
  -- nothing came yet
  abbrev pub nothing_waits : ℕ → OrderView T
  nothing_waits reorder = record { reorder = reorder; clock = 0; counts = none_counted; waiting = [] }

  -- The oldest of those that wait, which stands first, goes before a burst of this time is taken
  -- in: the clock is set back then, or it has waited for longer than `reorder`.
  abbrev pub is_due : OrderView T → ℕ → Bool
  is_due order time = any_due order.waiting
    where
      any_due : List (Waiting T) → Bool
      any_due [] = false
      any_due (oldest ∷ more) = is_set_back order.reorder order.clock time || nat_lt order.reorder (max order.clock time - oldest.came)

  abbrev pub place_of : Waiting T → Waiting T → ℕ
  place_of oldest one = place_from oldest.arrival.number one.arrival.number

  -- **The one that is handed on next**, in the oldest one's place and at its time: of those of its
  -- channel the one of the least number, going by the oldest's, and of several of one number the
  -- first. The others go on waiting.
  pub record IsNext (waiting : List (Waiting T)) (next : HandedOn T) (rest : List (Waiting T)) : Type 0 where
    pub oldest : Waiting T
    pub stands_first : slice_get waiting 0 ≡ Some oldest
    pub in_its_time : next.time ≡ oldest.came
    pub at : ℕ
    pub one : Waiting T
    pub stands : slice_get waiting at ≡ Some one
    pub itself : next.arrival ≡ one.arrival
    pub of_channel : one.arrival.channel ≡ oldest.arrival.channel
    pub least : (k : ℕ) (other : Waiting T) → slice_get waiting k ≡ Some other → other.arrival.channel ≡ oldest.arrival.channel
        → place_of oldest one ≤ place_of oldest other
    pub first : (k : ℕ) (other : Waiting T) → k < at → slice_get waiting k ≡ Some other → other.arrival.channel ≡ oldest.arrival.channel
        → place_of oldest one < place_of oldest other
    pub others : rest ≡ remove waiting at

  -- what is handed on, in turn, before a burst of this time is taken in, and what goes on waiting
  pub data HandsOn (time : ℕ) : OrderView T → List (HandedOn T) → OrderView T → Type 0 where
    none_due : {order : OrderView T} → is_due order time ≡ false → HandsOn time order [] order
    one_due : {order left : OrderView T} {rest : List (Waiting T)} {next : HandedOn T} {later : List (HandedOn T)}
        → is_due order time ≡ true → IsNext order.waiting next rest → HandsOn time (record order { waiting = rest }) later left
        → HandsOn time order (next ∷ later) left

  -- what is handed on where more than `most_waiting` would wait
  pub data KeepsMost (waiting : List (Waiting T)) : Option (HandedOn T) → List (Waiting T) → Type 0 where
    all_wait : length waiting ≤ most_waiting → KeepsMost waiting None waiting
    one_more : {next : HandedOn T} {rest : List (Waiting T)} → most_waiting < length waiting → IsNext waiting next rest → KeepsMost waiting (Some next) rest

  -- **A burst is taken in**: it waits from then on.
  pub record TakesIn (order : OrderView T) (one : Arrival T) (last : Option (HandedOn T)) (left : OrderView T) : Type 0 where
    pub keeps : KeepsMost (order.waiting ++ record { came = clock_at order.reorder order.clock one.time; arrival = one } ∷ []) last left.waiting
    pub clock : left.clock ≡ clock_at order.reorder order.clock one.time
    pub counts : left.counts ≡ counts_after order.counts (is_set_back order.reorder order.clock one.time) (is_some last)
    pub reorder : left.reorder ≡ order.reorder

  -- **A burst comes**: first all that is due is handed on, and then it is taken in.
  pub record BurstComes (order : OrderView T) (one : Arrival T) (handed : List (HandedOn T)) (left : OrderView T) : Type 0 where
    pub due : List (HandedOn T)
    pub between : OrderView T
    pub hands_on : HandsOn one.time order due between
    pub last : Option (HandedOn T)
    pub takes_in : TakesIn between one last left
    pub all : handed ≡ due ++ option_to_list last

  -- what is handed on where nothing more comes: all that waits
  pub data HandsOnAll : List (Waiting T) → List (HandedOn T) → Type 0 where
    none_waits : HandsOnAll [] []
    one_waits : {waiting rest : List (Waiting T)} {next : HandedOn T} {later : List (HandedOn T)}
        → IsNext waiting next rest → HandsOnAll rest later → HandsOnAll waiting (next ∷ later)

  -- **Bursts come one after another.**
  pub data Orders : OrderView T → List (Arrival T) → List (HandedOn T) → OrderView T → Type 0 where
    none_came : {order : OrderView T} → Orders order [] [] order
    one_came : {order between left : OrderView T} {one : Arrival T} {more : List (Arrival T)} {due later : List (HandedOn T)}
        → BurstComes order one due between → Orders between more later left → Orders order (one ∷ more) (due ++ later) left

  -- the bursts themselves
  abbrev pub arrivals_of : List (HandedOn T) → List (Arrival T)
  arrivals_of handed = map (λ one. one.arrival) handed

  abbrev pub bursts_of : List (Waiting T) → List (Arrival T)
  bursts_of waiting = map (λ one. one.arrival) waiting
