-- What is held since something is missing before it, and how long it has been.
use Rattle.std.specs.Prelude.{◌≡◌, ℕ, ◌-◌, ◌≤◌, nat_lt, Bool, true, false, Option, Some, None, List, filter, slice_get}
use Rattle.reorder.specs.Limits.{numbers_ahead}
use Rattle.reorder.specs.Number.{offset}
use Rattle.capture_rules.specs.declared.held_time.HeldTime.{HeldTime}
use Rattle.capture_rules.specs.declared.held_times.HeldTimes.{HeldTimes}

-- what was kept, each with its time, in order, and how long it may be held
abbrev pub held_by : HeldTimes → List HeldTime
held_by times = times.held.items

abbrev pub wait_of : HeldTimes → ℕ
wait_of times = times.wait

-- its number lies ahead of the expected one
abbrev pub lies_ahead : ℕ → HeldTime → Bool
lies_ahead expected one = nat_lt (offset expected one.number) numbers_ahead

-- it has been held for longer than `wait`
abbrev pub is_old : ℕ → ℕ → HeldTime → Bool
is_old wait now one = nat_lt wait (now - one.time)

-- what still lies ahead, and what of this is old
abbrev pub still_ahead : ℕ → List HeldTime → List HeldTime
still_ahead expected held = filter (lies_ahead expected) held

-- **The number to which a flow skips** that has held these: the last of the old ones, going from
-- the expected number on; or none where none is old.
pub record IsLastOld (wait now expected : ℕ) (held : List HeldTime) (number : ℕ) : Type 0 where
  pub at : ℕ
  pub one : HeldTime
  pub stands : slice_get held at ≡ Some one
  pub old : is_old wait now one ≡ true
  pub its_number : number ≡ one.number
  pub last : (k : ℕ) (other : HeldTime) → slice_get held k ≡ Some other → is_old wait now other ≡ true
      → offset expected other.number ≤ offset expected number

abbrev pub IsSkip : ℕ → ℕ → ℕ → List HeldTime → Option ℕ → Type 0
IsSkip wait now expected held (Some number) = IsLastOld wait now expected held number
IsSkip wait now expected held None = (k : ℕ) (one : HeldTime) → slice_get held k ≡ Some one → is_old wait now one ≡ false
