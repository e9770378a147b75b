use Rattle.std.proofs.Common.{◌≡◌, ◌||◌, ℕ, false, length, get_or}
use Rattle.flow_selection.specs.Ranges.{has_some}
use Rattle.flow_selection.proofs.list.FlowList.new.Given as goal

-- one of the ranges has a flow just if it was marked, or one of the rest has it
abbrev pub invariant-loop-rest : goal.invariant-loop-rest
invariant-loop-rest l = (k : ℕ) → has_some l.fn.ranges.items k ≡ (get_or l.all.items k false || has_some l.rest k)

abbrev pub decreases-loop-rest : goal.decreases-loop-rest
decreases-loop-rest l = length l.rest
