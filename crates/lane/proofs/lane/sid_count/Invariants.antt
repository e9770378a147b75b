-- The identifiers of the rows of the channel so far are below the count.
use Rattle.std.proofs.Common.{◌≡◌, ℕ, ◌<◌, Some, slice_get}
use Rattle.lane.specs.declared.sids.SidRow.{SidRow}
use Rattle.lane.proofs.lane.sid_count.Given as goal

abbrev pub invariant-loop-row : goal.invariant-loop-row
invariant-loop-row l =
    (k : ℕ) (row : SidRow) → k < l.row-index → slice_get l.rows k ≡ Some row → row.channel ≡ l.channel → row.sid < l.count
