-- What is noted of each channel so far is of no input.
use Rattle.std.proofs.Common.{◌≡◌, All, [], length}
use Rattle.workers.proofs.lane_notes.blank_notes.Given as goal

abbrev pub invariant-loop : goal.invariant-loop
invariant-loop g l = record {
  count : length l.lanes.items ≡ l.counter;
  blank : All (g.N.LaneNotes.are_of []) l.lanes.items;
}
