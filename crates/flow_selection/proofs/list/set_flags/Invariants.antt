use Rattle.std.proofs.Common.{◌≡◌, ◌||◌, ◌&&◌, ◌≤◌, ◌-◌, ◌+◌, ℕ, false, length, get_or, nat_lt}
use Rattle.flow_selection.specs.Ranges.{is_in_range}
use Rattle.flow_selection.proofs.list.set_flags.Given as goal

-- the flags are long enough, and those of the range below this flow are set
abbrev pub invariant-loop-flow : goal.invariant-loop-flow
invariant-loop-flow l = (l.fn.range.first ≤ l.flow) × (l.behind ≡ l.fn.range.last + 1) × (l.behind ≤ length l.flags.items)
    × ((k : ℕ) → get_or l.flags.items k false ≡ (get_or l.fn.flags.items k false || (is_in_range l.fn.range k && nat_lt k l.flow)))

abbrev pub decreases-loop-flow : goal.decreases-loop-flow
decreases-loop-flow l = l.behind - l.flow
