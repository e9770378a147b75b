-- Each row so far names a flow.
use Rattle.std.proofs.Common.{ℕ, ◌<◌}
use Rattle.lane.specs.Rows.{NamesNoFlow}
use Rattle.lane.proofs.sids.first_without_flow.Given as goal

abbrev pub invariant-loop-k : goal.invariant-loop-k
invariant-loop-k l = (j : ℕ) → j < l.k → ¬ (NamesNoFlow l.rows l.flow_count j)
