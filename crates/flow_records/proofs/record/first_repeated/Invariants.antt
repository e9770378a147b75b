-- No identifier so far stands in an earlier record.
use Rattle.std.proofs.Common.{ℕ, ◌<◌}
use Rattle.flow_records.specs.Setup.{IsRepeated}
use Rattle.flow_records.proofs.record.first_repeated.Given as goal

abbrev pub invariant-loop-k : goal.invariant-loop-k
invariant-loop-k l = (j : ℕ) → j < l.k → ¬ (IsRepeated l.records j)
