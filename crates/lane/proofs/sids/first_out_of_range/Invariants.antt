-- No row so far is out of range.
use Rattle.std.proofs.Common.{ℕ, ◌<◌}
use Rattle.lane.specs.Rows.{IsOutOfRangeWithin}
use Rattle.lane.proofs.sids.first_out_of_range.Given as goal

abbrev pub invariant-loop-k : goal.invariant-loop-k
invariant-loop-k l = (j : ℕ) → j < l.k → ¬ (IsOutOfRangeWithin l.channels l.rows j)
