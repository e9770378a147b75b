-- The flows so far are closed, and what that gave was given to the consumer.
use Rattle.std.proofs.Common.{◌≡◌, ◌≤◌, length, vec_capacity}
use Rattle.bonded_flows.specs.Table.{IsInUse}
use Rattle.uplink.proofs.FlowsClosed.{ClosesSoFar}
use Rattle.uses.proofs.midstream.close_all.Given as goal

abbrev pub invariant-loop-flow : goal.invariant-loop-flow
invariant-loop-flow g l =
    record {
      room : l.flow_count ≤ vec_capacity l.counts;
      few : l.flow ≤ l.flow_count;
      next : length l.counts.items ≡ l.flow;
      many : length l.flows.slots.items ≡ l.flow_count;
      in_use : IsInUse g.C.HeaderCheck.accepts l.flows;
      so_far : ClosesSoFar g.C.HeaderCheck.accepts g.O.Consumer.after l.fn.flows l.fn.out l.flows l.out l.counts.items;
    }
