-- The inputs that the source gave so far are served.
use Rattle.std.proofs.Common.{◌≡◌, List, length}
use Rattle.workers.specs.declared.channel_input.ChannelInput.{ChannelInput}
use Rattle.workers.specs.Given.{BecameBy}
use Rattle.workers.specs.Inside.Working.{HasServedAll}
use Rattle.workers.proofs.lane_worker.take_inputs.Given as goal

abbrev pub invariant-loop : goal.invariant-loop
invariant-loop g l =
    (inputs : List ChannelInput) × BecameBy g.S.LiveSource.gave l.fn.work.source inputs l.work.source × HasServedAll g.N.LaneNotes.are_of inputs l.fn.work l.work l.notes
    × (length l.notes.lanes.items ≡ length l.work.lanes.items)
