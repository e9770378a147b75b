-- A flow's clock, and how often times couldn't be gone by.
use Rattle.std.specs.Prelude.{ℕ, ◌+◌, ◌-◌, ◌^◌, nat_lt, min, max, Bool, if◌then◌else◌}
use Rattle.capture_rules.specs.declared.clock_counts.ClockCounts.{ClockCounts}

-- **A flow's clock is set back** where a burst comes whose time is earlier by more than `reorder`.
abbrev pub is_set_back : ℕ → ℕ → ℕ → Bool
is_set_back reorder clock time = nat_lt reorder (clock - time)

-- What the clock says then: the burst's time. A burst that is earlier by less, or by as much,
-- leaves it as it is.
abbrev pub clock_at : ℕ → ℕ → ℕ → ℕ
clock_at reorder clock time = if is_set_back reorder clock time then time else max clock time

-- so many together, where no count goes past its greatest value
abbrev pub together : ℕ → ℕ → ℕ
together some more = min (some + more) (2 ^ 64 - 1)

-- nothing came yet
abbrev pub none_counted : ClockCounts
none_counted = record { set_back = 0; crowded = 0 }

-- **What is counted** after a burst by which the clock was set back or wasn't, and with which too
-- many would have waited or not
abbrev pub counts_after : ClockCounts → Bool → Bool → ClockCounts
counts_after counts is_set_back is_crowded =
    record { set_back = together counts.set_back (if is_set_back then 1 else 0); crowded = together counts.crowded (if is_crowded then 1 else 0) }

-- what is counted of two flows
abbrev pub clocks_of_both : ClockCounts → ClockCounts → ClockCounts
clocks_of_both one other = record { set_back = together one.set_back other.set_back; crowded = together one.crowded other.crowded }
