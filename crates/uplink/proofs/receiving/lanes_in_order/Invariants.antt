-- What was counted of the channels so far.
use Rattle.std.proofs.Common.{◌≡◌, ℕ, ◌<◌, length, slice_get}
use Rattle.uplink.specs.Inside.Running.{notes_on}
use Rattle.uplink.proofs.receiving.lanes_in_order.Given as goal

abbrev pub invariant-loop-channel : goal.invariant-loop-channel
invariant-loop-channel l = record {
  count : length l.lanes.items ≡ l.channel;
  each : (channel : ℕ) → channel < l.channel → slice_get l.lanes.items channel ≡ notes_on l.notes channel;
}
