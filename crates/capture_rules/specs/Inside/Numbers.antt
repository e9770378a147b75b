-- The numbers of the bursts that wait.
use Rattle.std.specs.Prelude.{◌≡◌, ℕ, ◌<◌, ◌==◌, ◌&&◌, Bool, true, false, Some, List, [], slice_get, option_map, unwrap_or}
use Rattle.std.specs.List.{count_by}
use Rattle.capture_rules.specs.declared.arrival.Waiting.{Waiting}
use Rattle.capture_rules.specs.declared.waiting_numbers.WaitingNumbers.{WaitingNumbers}

-- the numbers that wait on a channel, in order
abbrev pub numbers_on : WaitingNumbers → ℕ → List ℕ
numbers_on numbers channel = unwrap_or (option_map (λ queue. queue.items) (slice_get numbers.channels.items channel)) []

-- how often a number stands among some
abbrev pub count_among : ℕ → List ℕ → ℕ
count_among number numbers = count_by (λ n. n == number) numbers

module _ {T : Type 0} where
  -- a burst has this channel and number
  abbrev pub has : ℕ → ℕ → Waiting T → Bool
  has channel number one = one.arrival.channel == channel && one.arrival.number == number

  -- how many of some do
  abbrev pub count_waiting : ℕ → ℕ → List (Waiting T) → ℕ
  count_waiting channel number waiting = count_by (has channel number) waiting

  -- they are the numbers of what waits: each stands there as often as bursts of its channel have it
  abbrev pub AreNumbersOf : WaitingNumbers → List (Waiting T) → Type 0
  AreNumbersOf numbers waiting = (channel number : ℕ) → count_among number (numbers_on numbers channel) ≡ count_waiting channel number waiting

  -- the first one of a channel and number stands here
  pub record IsFirstWith (channel number : ℕ) (waiting : List (Waiting T)) (at : ℕ) : Type 0 where
    pub one : Waiting T
    pub stands : slice_get waiting at ≡ Some one
    pub has_it : has channel number one ≡ true
    pub first : (k : ℕ) (other : Waiting T) → k < at → slice_get waiting k ≡ Some other → has channel number other ≡ false
