-- The lanes of the channels so far are opened that belong to the source.
use Rattle.uplink.specs.Inside.Running.{AreOpenLanesOf}
use Rattle.uplink.proofs.open.open_lanes_of.Given as goal

abbrev pub invariant-loop-channel : goal.invariant-loop-channel
invariant-loop-channel l = AreOpenLanesOf l.channel l.source l.setup l.lanes.items
