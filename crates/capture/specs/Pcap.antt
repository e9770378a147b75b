-- Files of the format pcap.
use Rattle.std.specs.Prelude.{◌≡◌, ℕ, ◌<◌, ◌≤◌, ◌^◌, List, ◌++◌, length, Option, Some, None, ◌==◌, if◌then◌else◌}
use Rattle.std.specs.List.{flat_map}
use Rattle.std.specs.Int.{w16, w32}
use Rattle.capture.specs.Endian.{number_bytes}
use Rattle.capture.specs.declared.endian.Endian.{Endian}
use Rattle.capture.specs.declared.endian.Endian.TheVariants.{Big, Little}
use Rattle.capture.specs.declared.pcap.Resolution.{Resolution}
use Rattle.capture.specs.declared.pcap.Resolution.TheVariants.{Microseconds, Nanoseconds}
use Rattle.capture.specs.declared.pcap.PcapHeader.{PcapHeader}
use Rattle.capture.specs.declared.pcap.RecordHead.{RecordHead}

-- the magic number, written in the order of all other numbers of the file
abbrev pub magic_of : Resolution → ℕ
magic_of Microseconds = 0xA1B2C3D4
magic_of Nanoseconds = 0xA1B23C4D

-- what a magic number says that is read with its most significant byte first
abbrev pub magic_said : ℕ → Option (Endian × Resolution)
magic_said magic =
    if magic == 0xA1B2C3D4 then Some (Big, Microseconds)
    else (if magic == 0xA1B23C4D then Some (Big, Nanoseconds)
    else (if magic == 0xD4C3B2A1 then Some (Little, Microseconds)
    else (if magic == 0x4D3CB2A1 then Some (Little, Nanoseconds)
    else None)))

-- the 24 bytes of a file's header
abbrev pub header_bytes : PcapHeader → List ℕ
header_bytes header =
    number_bytes header.endian w32 (magic_of header.resolution)
    ++ number_bytes header.endian w16 header.major
    ++ number_bytes header.endian w16 header.minor
    ++ number_bytes header.endian w32 header.zone
    ++ number_bytes header.endian w32 header.accuracy
    ++ number_bytes header.endian w32 header.snap_length
    ++ number_bytes header.endian w32 header.link_type

-- the sixteen bytes of a record's header
abbrev pub head_bytes : Endian → RecordHead → List ℕ
head_bytes endian head =
    number_bytes endian w32 head.seconds
    ++ number_bytes endian w32 head.fraction
    ++ number_bytes endian w32 head.captured
    ++ number_bytes endian w32 head.original

-- a record without where it lies in memory: its header and the bytes that were captured
pub record RecordParts : Type 0 where
  pub head : RecordHead
  pub bytes : List ℕ

abbrev pub record_bytes : Endian → RecordParts → List ℕ
record_bytes endian parts = head_bytes endian parts.head ++ parts.bytes

-- records, end to end
abbrev pub records_bytes : Endian → List RecordParts → List ℕ
records_bytes endian records = flat_map (record_bytes endian) records

-- a file: its header, and records
abbrev pub file_bytes : PcapHeader → List RecordParts → List ℕ
file_bytes header records = header_bytes header ++ records_bytes header.endian records

-- the greatest length of a record: 1 MiB
abbrev pub longest_record : ℕ
longest_record = 1048576

-- the numbers of a file's header have 16 or 32 bits
pub record FitsHeader (header : PcapHeader) : Type 0 where
  pub major : header.major < 2 ^ 16
  pub minor : header.minor < 2 ^ 16
  pub zone : header.zone < 2 ^ 32
  pub accuracy : header.accuracy < 2 ^ 32
  pub snap_length : header.snap_length < 2 ^ 32
  pub link_type : header.link_type < 2 ^ 32

-- the numbers of a record's header have 32 bits
pub record FitsHead (head : RecordHead) : Type 0 where
  pub seconds : head.seconds < 2 ^ 32
  pub fraction : head.fraction < 2 ^ 32
  pub captured : head.captured < 2 ^ 32
  pub original : head.original < 2 ^ 32

-- a record has as many bytes as its header says, and at most 1 MiB
pub record IsRecord (parts : RecordParts) : Type 0 where
  pub fits : FitsHead parts.head
  pub size : length parts.bytes ≡ parts.head.captured
  pub short : parts.head.captured ≤ longest_record
