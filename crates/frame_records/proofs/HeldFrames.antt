-- The frame in a record of a capture.
use Rattle.std.proofs.Common.{◌≡◌, ◌≤◌, ℕ, ◌+◌, ◌*◌, ◌/◌, ◌%◌, List, length, Option, Some, None, option_map, refl, sym, ap, ◌∙◌, arith}
use Rattle.std.specs.Prelude.{IfSome}
use Rattle.capture.specs.Captures.{captured_record}
use Rattle.capture.specs.Numbers.{number_in}
use Rattle.capture.specs.Packet.{Parts, SpellsPacket, two_bytes}
use Rattle.capture.specs.PcapngBlocks.{CaptureParts}
use Rattle.capture.specs.declared.packet.Packet.{Packet}
use Rattle.capture.proofs.PacketParts.{packet_bytes-inj}
use Rattle.frame_records.specs.Frames.{file_header, frame_record, second, short_bytes}
use Rattle.frame_records.specs.Recorded.{FrameParts, HasPacket, HoldsPacket, HoldsFrame, xra, frame_parts, recorded_of, written_frame, written_packet, ◌>>=◌}
use Rattle.frame_records.specs.declared.link.FrameLink.TheVariants.{Xra}
use Rattle.frame_records.specs.declared.origin.FrameOrigin.{FrameOrigin}
use Rattle.frame_records.specs.declared.recorded.RecordedFrame.{RecordedFrame}

-- a packet that was read of a record's bytes is the one that it holds
pub packet_had : (one : CaptureParts) (bytes : List ℕ) (found : Option Packet) → one.link_type ≡ xra → one.original ≤ length one.bytes
    → bytes ≡ one.bytes → IfSome found (SpellsPacket bytes) → IfSome found (HasPacket one)
packet_had one bytes None link_type whole same spelled = tt
packet_had one bytes (Some packet) link_type whole same spelled = record {
  parts = spelled.parts;
  held = record { link_type = link_type; whole = whole; spelled = sym same ∙ spelled.spelled };
  packet_is = spelled.packet_is;
}

-- what is read of a packet's parts is in the record that holds the packet
pub frame_held : (one : CaptureParts) (parts : Parts) (found : Option RecordedFrame) → HoldsPacket one parts
    → option_map frame_parts found ≡ recorded_of one.nanoseconds parts → IfSome found (λ frame. HoldsFrame one (frame_parts frame))
frame_held one parts None packet is = tt
frame_held one parts (Some frame) packet is = record { parts = parts; packet = packet; frame_is = sym is }

-- a record holds one packet, and so one frame
pub one_frame : (one : CaptureParts) (frame other : FrameParts) → HoldsFrame one frame → HoldsFrame one other → frame ≡ other
one_frame one frame other first second =
    let parts : first.parts ≡ second.parts = packet_bytes-inj first.parts second.parts (sym first.packet.spelled ∙ second.packet.spelled) in
    let found : Some frame ≡ Some other = sym first.frame_is ∙ ap (recorded_of one.nanoseconds) parts ∙ second.frame_is in
    cc

-- seconds and a fraction of a second are the time
whole_time : (n : ℕ) → n / second * 1000000000 + n % second ≡ n
whole_time n = omega arith

-- a frame of these numbers
abbrev frame_with : ℕ → ℕ → ℕ → List ℕ → Option FrameParts
frame_with time channel sid frame = Some (record { time = time; channel = channel; sid = sid; frame = frame })

frame_from : (time same channel sid : ℕ) (frame : List ℕ) (said_channel said_sid : Option ℕ) → time ≡ same → said_channel ≡ Some channel
    → said_sid ≡ Some sid
    → (said_channel >>= (λ channel. said_sid >>= (λ sid. frame_with time channel sid frame))) ≡ frame_with same channel sid frame
frame_from time same channel sid frame said_channel said_sid t c s =
    ap (λ said. said >>= (λ channel. said_sid >>= (λ sid. frame_with time channel sid frame))) c
    ∙ ap (λ said. said >>= (λ sid. frame_with time channel sid frame)) s ∙ ap (λ t. frame_with t channel sid frame) t

-- the record of a frame holds its packet
pub written_packet_held : (time : ℕ) (origin : FrameOrigin) (frame : List ℕ)
    → HoldsPacket (captured_record (file_header Xra) (frame_record Xra time origin frame)) (written_packet origin frame)
written_packet_held time origin frame = record { link_type = refl; whole = omega arith; spelled = refl }

-- and so the frame
pub written_held : (time : ℕ) (origin : FrameOrigin) (frame : List ℕ) → number_in 4 (short_bytes origin.channel) ≡ Some origin.channel
    → number_in 4 (two_bytes origin.sid) ≡ Some origin.sid
    → HoldsFrame (captured_record (file_header Xra) (frame_record Xra time origin frame)) (written_frame time origin frame)
written_held time origin frame channel sid =
    let written = written_frame time origin frame in
    record {
      parts = written_packet origin frame;
      packet = written_packet_held time origin frame;
      frame_is = frame_from _ written.time origin.channel origin.sid frame _ _ (whole_time written.time) channel sid;
    }
