-- The MAC frames that an analyser has recorded.
use Rattle.std.specs.Prelude.{◌≡◌, ◌≤◌, ℕ, min, List, length, Option, Some, None, ◌==◌, if◌then◌else◌}
use Rattle.capture.specs.Fields.{Field, last_value}
use Rattle.capture.specs.Numbers.{number_in}
use Rattle.capture.specs.Packet.{Parts, packet_bytes, IsPacket}
use Rattle.capture.specs.PcapngBlocks.{CaptureParts}
use Rattle.capture.specs.declared.packet.Packet.{Packet}
use Rattle.frame_records.specs.Frames.{greatest_time, origin_fields}
use Rattle.frame_records.specs.declared.origin.FrameOrigin.{FrameOrigin}
use Rattle.frame_records.specs.declared.recorded.RecordedFrame.{RecordedFrame}

-- a frame that was recorded, without where it lies in memory
pub record FrameParts : Type 0 where
  pub time : ℕ
  pub channel : ℕ
  pub sid : ℕ
  pub frame : List ℕ

abbrev pub frame_parts : RecordedFrame → FrameParts
frame_parts found = record { time = found.time; channel = found.channel; sid = found.sid; frame = found.frame.now }

-- one after another, while there is something
infixl 10 ◌>>=◌
abbrev pub ◌>>=◌ : {A B : Type 0} → Option A → (A → Option B) → Option B
(Some x) >>= next = next x
None >>= next = None

-- the number of 1 to 4 bytes that the last of the TLVs of a type is
abbrev pub number_at : ℕ → List Field → Option ℕ
number_at kind fields = last_value kind fields >>= number_in 4

-- **The frame that a packet of these parts holds**: its type is 80, TLV 10 is the channel and TLV
-- 11 the SID
abbrev pub recorded_of : ℕ → Parts → Option FrameParts
recorded_of time parts = if parts.kind == 80 then (do
  channel ← number_at 10 parts.fields
  sid ← number_at 11 parts.fields
  Some (record { time = time; channel = channel; sid = sid; frame = parts.payload })) else None

-- the link type of an XRA analyser's packets
abbrev pub xra : ℕ
xra = 273

-- a record of a capture holds the packet of these parts, and the whole of it
pub record HoldsPacket (one : CaptureParts) (parts : Parts) : Type 0 where
  pub link_type : one.link_type ≡ xra
  pub whole : one.original ≤ length one.bytes
  pub spelled : one.bytes ≡ packet_bytes parts

-- what was read is the packet that a record holds
pub record HasPacket (one : CaptureParts) (packet : Packet) : Type 0 where
  pub parts : Parts
  pub held : HoldsPacket one parts
  pub packet_is : IsPacket parts packet

-- **What a record is**: a packet that holds this frame
pub record HoldsFrame (one : CaptureParts) (frame : FrameParts) : Type 0 where
  pub parts : Parts
  pub packet : HoldsPacket one parts
  pub frame_is : recorded_of one.nanoseconds parts ≡ Some frame

-- what is to be read of the record of a frame that a burst of this origin completed at this time
abbrev pub written_frame : ℕ → FrameOrigin → List ℕ → FrameParts
written_frame time origin frame =
    record { time = min time greatest_time; channel = origin.channel; sid = origin.sid; frame = frame }

-- and its packet
abbrev pub written_packet : FrameOrigin → List ℕ → Parts
written_packet origin frame = record { version = 1; kind = 80; fields = origin_fields origin; payload = frame }
