-- The rows so far are in the table.
use Rattle.std.proofs.Common.{◌≡◌, length, take}
use Rattle.captured_flows.specs.Sids.{IsTableOf}
use Rattle.captured_flows.proofs.sids.SidFlows.new.Given as goal

abbrev pub invariant-loop-row : goal.invariant-loop-row
invariant-loop-row l = record {
  many : length l.flows.items ≡ 262144;
  table : IsTableOf (take l.row-index l.rows) l.flows.items;
}
