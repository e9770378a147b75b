-- The packet that was read is the one that the record holds.
use Rattle.std.proofs.Common.{◌∙◌, rules}
use Rattle.capture.specs.SeenCapture.{capture_parts}
use Rattle.frame_records.proofs.HeldFrames.{packet_had}
use Rattle.frame_records.proofs.record_packet.packet_in.Goals as goal

pub returns-clause-found : goal.returns-clause-found
returns-clause-found c =
    packet_had (capture_parts c.args.given.now) c.deref.result.now c.read_packet.result (search rules) (search rules)
    c.deref.ensures.value c.read_packet.ensures.found

pub returns-clause-only : goal.returns-clause-only
returns-clause-only c =
    λ parts held. c.read_packet.ensures.only parts (c.deref.ensures.value ∙ held.spelled)
