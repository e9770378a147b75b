-- What so many flows gave, and the frames of the others are still to come.
use Rattle.std.proofs.Common.{◌≡◌, ◌≤◌, ◌+◌, length, vec_capacity}
use Rattle.std.specs.Vec.Iter.{into_iter_items}
use Rattle.uplink.proofs.FlowsCollected.{AreFlowsSoFar}
use Rattle.uplink.proofs.finish.flows_of.Given as goal

abbrev pub invariant-loop-own : goal.invariant-loop-own
invariant-loop-own l = record {
  room : length l.records ≤ vec_capacity l.flows;
  left : length l.flows.items + length (into_iter_items l.own-iterator) ≡ length l.records;
  so_far : AreFlowsSoFar l.records l.fn.frames.items l.counts l.flows.items (into_iter_items l.own-iterator);
}
