-- The lanes of the channels so far are opened.
use Rattle.std.proofs.Common.{◌≡◌, length}
use Rattle.receiver.specs.Receiving.{AreOpened}
use Rattle.receiver.proofs.tallied_lane.open_lanes.Given as goal

abbrev pub invariant-loop-channel : goal.invariant-loop-channel
invariant-loop-channel l = record {
  count : length l.lanes.items ≡ l.channel;
  each : AreOpened l.setup l.lanes.items;
}
