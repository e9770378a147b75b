-- What so many flows gave, and the frames of the others are still to come.
use Rattle.std.proofs.Common.{◌≡◌, ◌≤◌, ◌+◌, length, vec_capacity}
use Rattle.std.specs.Vec.Iter.{into_iter_items}
use Rattle.uplink.proofs.FlowsCollected.{AreFlowsSoFar}
use Rattle.uses.proofs.midstream.outcomes_of.Given as goal

abbrev pub invariant-loop-frames : goal.invariant-loop-frames
invariant-loop-frames l = record {
  room : length l.records ≤ vec_capacity l.flows;
  left : length l.flows.items + length (into_iter_items l.frames-iterator) ≡ length l.records;
  so_far : AreFlowsSoFar l.records l.fn.given.items l.counts l.flows.items (into_iter_items l.frames-iterator);
}
