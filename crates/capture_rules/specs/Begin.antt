-- Where a flow begins, is silent, goes on, or begins anew.
use Rattle.std.specs.Prelude.{◌≡◌, ℕ, ◌-◌, ◌≤◌, ◌&&◌, ◌||◌, nat_lt, nat_le, not, Bool, true, false, Option, Some, None, List, [], ◌∷◌, ◌++◌, slice_get, length, if◌then◌else◌}
use Rattle.reorder.specs.Number.{offset}
use Rattle.capture_rules.specs.declared.arrival.HandedOn.{HandedOn}
use Rattle.capture_rules.specs.declared.beginning.Beginning.{Beginning}
use Rattle.capture_rules.specs.declared.beginning.Begun.{Begun}
use Rattle.capture_rules.specs.Order.{most_waiting, place_from}

-- a beginning lasts 10 ms, from the first one in it on
abbrev pub beginning_length : ℕ
beginning_length = 10000000

-- What is known of a flow: how long a silence is at least, whether its first number is known, when
-- the last burst was handed on, and what is kept since the flow is beginning.
pub record BeginningView (T : Type 0) : Type 0 where
  pub wait : ℕ
  pub is_begun : Bool
  pub last : Option ℕ
  pub kept : List (HandedOn T)

-- there was a last one, and longer than `wait` before this time
abbrev pub is_long_ago : ℕ → Option ℕ → ℕ → Bool
is_long_ago wait None time = false
is_long_ago wait (Some last) time = nat_lt wait (time - last)

module _ {T : Type 0} where
  abbrev pub beginning_seen : Beginning T → BeginningView T
  beginning_seen flow = record { wait = flow.wait; is_begun = flow.is_begun; last = flow.last; kept = flow.kept.items }

  -- nothing was handed on yet
  abbrev pub nothing_handed_on : ℕ → Bool → BeginningView T
  nothing_handed_on wait is_begun = record { wait = wait; is_begun = is_begun; last = None; kept = [] }

  -- it is beginning
  abbrev pub is_beginning : List (HandedOn T) → Bool
  is_beginning [] = false
  is_beginning (first ∷ more) = true

  -- and its beginning is over at this time: it lasted long enough or has as many bursts as may wait
  abbrev pub is_over : List (HandedOn T) → ℕ → Bool
  is_over [] time = false
  is_over (first ∷ more) time = nat_lt beginning_length (time - first.time) || nat_le most_waiting (length (first ∷ more))

  -- **A silence is over** at this time: the flow isn't beginning, and nothing was handed on for
  -- longer than `wait`.
  abbrev pub is_silent : BeginningView T → ℕ → Bool
  is_silent flow time = not (is_beginning flow.kept) && is_long_ago flow.wait flow.last time

  -- **It is kept**, where this number is expected and the window has this width: the flow is
  -- beginning; or it begins with this one, since its first number isn't known; or it begins anew
  -- with this one, since after a silence its number doesn't lie ahead within the window. Any other
  -- is handed in.
  abbrev pub is_kept : BeginningView T → ℕ → ℕ → HandedOn T → Bool
  is_kept flow expected window one =
      is_beginning flow.kept || (not flow.is_begun || (is_silent flow one.time && nat_le window (offset expected one.arrival.number)))

  -- the flow after it, and what is to be handed in
  abbrev pub after_hand_on : BeginningView T → ℕ → ℕ → HandedOn T → BeginningView T
  after_hand_on flow expected window one =
      if is_kept flow expected window one then record flow { last = Some one.time; kept = flow.kept ++ one ∷ [] } else record flow { last = Some one.time }

  abbrev pub to_hand_in : BeginningView T → ℕ → ℕ → HandedOn T → Option (HandedOn T)
  to_hand_in flow expected window one = if is_kept flow expected window one then None else Some one

  -- the beginning of the flow has ended
  abbrev pub after_end : BeginningView T → BeginningView T
  after_end flow = record flow { is_begun = true; kept = [] }

  -- **The first number** of a flow with this beginning: the least in it, going by the first one's.
  pub record IsFirstNumber (kept : List (HandedOn T)) (number : ℕ) : Type 0 where
    pub first : HandedOn T
    pub stands_first : slice_get kept 0 ≡ Some first
    pub at : ℕ
    pub one : HandedOn T
    pub stands : slice_get kept at ≡ Some one
    pub its_number : number ≡ one.arrival.number
    pub least : (k : ℕ) (other : HandedOn T) → slice_get kept k ≡ Some other
        → place_from first.arrival.number number ≤ place_from first.arrival.number other.arrival.number

  -- a beginning ended so
  pub record IsEnded (flow : BeginningView T) (begun : Begun T) : Type 0 where
    pub first_number : IsFirstNumber flow.kept begun.first
    pub anew : begun.is_anew ≡ flow.is_begun
    pub kept : begun.kept.items ≡ flow.kept
