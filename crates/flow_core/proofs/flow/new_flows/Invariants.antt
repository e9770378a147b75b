-- Each record so far has its flow, and there is room for the rest.
use Rattle.std.proofs.Common.{◌≡◌, ◌≤◌, length, vec_capacity}
use Rattle.flow_core.proofs.NewFlows.{AreNewBelow}
use Rattle.flow_core.proofs.flow.new_flows.Given as goal

abbrev pub invariant-loop-record : goal.invariant-loop-record
invariant-loop-record l =
    record {
      count : length l.flows.items ≡ l.record-index;
      room : length l.records ≤ vec_capacity l.flows;
      each : AreNewBelow l.records l.flows.items l.record-index;
    }
