-- The file of frames that were joined.
use Rattle.std.specs.Prelude.{ℕ, ◌^◌, ◌-◌, ◌*◌, ◌/◌, ◌%◌, min, nat_lt, List, [], ◌∷◌, ◌++◌, length, Option, Some, None, if◌then◌else◌}
use Rattle.std.specs.Int.{w32, w64, to_be_bytes}
use Rattle.capture.specs.Fields.{Field, fields_bytes}
use Rattle.capture.specs.Packet.{two_bytes, packet_bytes}
use Rattle.capture.specs.Pcap.{RecordParts}
use Rattle.capture.specs.declared.endian.Endian.TheVariants.{Little}
use Rattle.capture.specs.declared.pcap.PcapHeader.{PcapHeader}
use Rattle.capture.specs.declared.pcap.RecordHead.{RecordHead}
use Rattle.capture.specs.declared.pcap.Resolution.TheVariants.{Nanoseconds}
use Rattle.frame_records.specs.declared.link.FrameLink.{FrameLink}
use Rattle.frame_records.specs.declared.link.FrameLink.TheVariants.{Docsis, Xra}
use Rattle.frame_records.specs.declared.origin.FrameOrigin.{FrameOrigin}

-- the most bytes of a frame
abbrev pub longest_frame : ℕ
longest_frame = 65541

abbrev pub link_type : FrameLink → ℕ
link_type Docsis = 143
link_type Xra = 273

-- **The header of the file**: little-endian, in nanoseconds, of version 2.4
abbrev pub file_header : FrameLink → PcapHeader
file_header link = record {
  endian = Little;
  resolution = Nanoseconds;
  major = 2;
  minor = 4;
  zone = 0;
  accuracy = 0;
  snap_length = 262144;
  link_type = link_type link;
}

-- nanoseconds in a second, and the greatest time for which a record has a place
abbrev pub second : ℕ
second = 1000000000

abbrev pub greatest_time : ℕ
greatest_time = 2 ^ 32 * second - 1

-- the head of a record of so many bytes, at this time or at the greatest one
abbrev pub record_head : ℕ → ℕ → RecordHead
record_head time size = record {
  seconds = min time greatest_time / second;
  fraction = min time greatest_time % second;
  captured = size;
  original = size;
}

-- a number below 2^32 in as few bytes as it needs, the most significant first
abbrev pub short_bytes : ℕ → List ℕ
short_bytes n =
    if nat_lt n 256 then n ∷ []
    else (if nat_lt n 65536 then two_bytes n
    else (if nat_lt n 16777216 then n / 65536 ∷ two_bytes (n % 65536)
    else to_be_bytes w32 n))

-- TLVs 10 and 11: the upstream channel id and the SID
abbrev pub address_fields : FrameOrigin → List Field
address_fields origin = record { kind = 10; value = short_bytes origin.channel } ∷ record { kind = 11; value = two_bytes origin.sid } ∷ []

-- in TLV 14, TLV 1: the analyser's number of the burst
abbrev pub reference_fields : Option ℕ → List Field
reference_fields None = []
reference_fields (Some id) = record { kind = 1; value = to_be_bytes w64 id } ∷ []

-- TLV 14: the burst that completed a frame
abbrev pub burst_field : FrameOrigin → Field
burst_field origin = record { kind = 14; value = fields_bytes (reference_fields origin.burst_id ++ address_fields origin) }

abbrev pub origin_fields : FrameOrigin → List Field
origin_fields origin = address_fields origin ++ burst_field origin ∷ []

-- a record holds the frame, or a packet of type 80, an upstream MAC frame, with where it came from
abbrev pub frame_data : FrameLink → FrameOrigin → List ℕ → List ℕ
frame_data Docsis origin frame = frame
frame_data Xra origin frame = packet_bytes (record { version = 1; kind = 80; fields = origin_fields origin; payload = frame })

-- **The record of a frame** that a burst of this origin completed at this time
abbrev pub frame_record : FrameLink → ℕ → FrameOrigin → List ℕ → RecordParts
frame_record link time origin frame =
    record { head = record_head time (length (frame_data link origin frame)); bytes = frame_data link origin frame }
