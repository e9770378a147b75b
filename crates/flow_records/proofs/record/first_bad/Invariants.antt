-- No record so far is out of range.
use Rattle.std.proofs.Common.{ℕ, ◌<◌}
use Rattle.flow_records.specs.Setup.{IsBad}
use Rattle.flow_records.proofs.record.first_bad.Given as goal

abbrev pub invariant-loop-k : goal.invariant-loop-k
invariant-loop-k l = (j : ℕ) → j < l.k → ¬ (IsBad l.records j)
