-- The table has the flows of the rows so far, and a place for the identifier of each row.
use Rattle.std.proofs.Common.{◌≡◌, ℕ, ◌<◌, Some, length, slice_get}
use Rattle.lane.specs.declared.sids.SidRow.{SidRow}
use Rattle.lane.proofs.SidFlows.{HasFlowsBelow}
use Rattle.lane.proofs.lane.flows_of.Given as goal

abbrev pub invariant-loop-row : goal.invariant-loop-row
invariant-loop-row l =
    record {
      has : HasFlowsBelow (record { channel = l.channel; rows = l.rows; records = l.records }) l.row-index l.flows.items;
      room : (k : ℕ) (row : SidRow) → slice_get l.rows k ≡ Some row → row.channel ≡ l.channel → row.sid < length l.flows.items;
    }
