-- The frame is that of the packet that the record holds.
use Rattle.std.proofs.Common.{◌∙◌}
use Rattle.capture.specs.SeenCapture.{capture_parts}
use Rattle.frame_records.proofs.HeldFrames.{frame_held}
use Rattle.frame_records.proofs.recorded.recorded_frame.Goals as goal

pub returns-clause-found : goal.returns-clause-found
returns-clause-found c =
    let packet = c.in_ok-packet.ensures.found in
    frame_held (capture_parts c.args.given.now) packet.parts c.frame_in.result packet.held (c.frame_in.ensures packet.parts packet.packet_is)

pub returns-clause-only : goal.returns-clause-only
returns-clause-only c =
    λ frame held. c.frame_in.ensures held.parts (c.in_ok-packet.ensures.only held.parts held.packet) ∙ held.frame_is
