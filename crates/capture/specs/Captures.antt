-- Captures of either format.
use Rattle.std.specs.Prelude.{◌≡◌, ◌≢◌, ℕ, ◌+◌, ◌*◌, ◌⊎◌, List, [], ◌∷◌, ◌++◌, map, Option, Some, None, option_map}
use Rattle.capture.specs.Pcap.{RecordParts}
use Rattle.capture.specs.PcapReading.{PcapState, StandsFor, Reports, IsAtEnd}
use Rattle.capture.specs.PcapngBlocks.{CaptureParts}
use Rattle.capture.specs.PcapngReading.{PcapngState, HasRead, IsBetweenBlocks}
use Rattle.capture.specs.PcapngFaults.{HasFault}
use Rattle.capture.specs.declared.pcap.Resolution.{Resolution}
use Rattle.capture.specs.declared.pcap.Resolution.TheVariants.{Microseconds, Nanoseconds}
use Rattle.capture.specs.declared.pcap.PcapHeader.{PcapHeader}
use Rattle.capture.specs.declared.pcap.RecordHead.{RecordHead}
use Rattle.capture.specs.declared.pcap_fault.PcapFault.{PcapFault}
use Rattle.capture.specs.declared.pcap_fault.PcapFault.TheVariants.{NotPcap}
use Rattle.capture.specs.declared.pcapng_fault.PcapngFault.{PcapngFault}
use Rattle.capture.specs.declared.pcapng_fault.PcapngFault.TheVariants.{NoSectionHeader}
use Rattle.capture.specs.declared.capture_fault.CaptureFault.{CaptureFault}
use Rattle.capture.specs.declared.capture_fault.CaptureFault.TheVariants.{NoCapture, Pcap, Pcapng}
use Rattle.capture.specs.declared.capture_reader.CaptureReader.{CaptureReader}
use Rattle.capture.specs.declared.capture_reader.CaptureReader.TheVariants.{Unread, OfPcap, OfPcapng}

-- the time of a record of a pcap file, whose fraction of a second is in the file's unit
abbrev pub pcap_nanoseconds : Resolution → RecordHead → ℕ
pcap_nanoseconds Microseconds head = head.seconds * 1000000000 + head.fraction * 1000
pcap_nanoseconds Nanoseconds head = head.seconds * 1000000000 + head.fraction

-- a record of a pcap file, as one of a capture
abbrev pub captured_record : PcapHeader → RecordParts → CaptureParts
captured_record header parts = record {
  link_type = header.link_type;
  nanoseconds = pcap_nanoseconds header.resolution parts.head;
  original = parts.head.original;
  bytes = parts.bytes;
}

abbrev pub captured_records : Option PcapHeader → List RecordParts → List CaptureParts
captured_records None records = []
captured_records (Some header) records = map (captured_record header) records

-- the first byte of each pcapng file
abbrev pub first_of_pcapng : ℕ
first_of_pcapng = 0x0A

-- the first byte of these bytes says that they are no pcapng file
pub record BeginsOtherwise (bytes : List ℕ) : Type 0 where
  pub first : ℕ
  pub more : List ℕ
  pub spelled : bytes ≡ first ∷ more
  pub other : first ≢ first_of_pcapng

-- and here it says that they are
pub record BeginsAsPcapng (bytes : List ℕ) : Type 0 where
  pub more : List ℕ
  pub spelled : bytes ≡ first_of_pcapng ∷ more

-- of a pcap file a capture gives the records
pub record HasCapturedPcap (state : PcapState) (given : List CaptureParts) (bytes : List ℕ) : Type 0 where
  pub records : List RecordParts
  pub stands : StandsFor state records bytes
  pub given_is : given ≡ captured_records state.header records
  pub begins : BeginsOtherwise bytes

pub record HasCapturedPcapng (state : PcapngState) (given : List CaptureParts) (bytes : List ℕ) : Type 0 where
  pub read : HasRead state given bytes
  pub begins : BeginsAsPcapng bytes

-- A reader that gave these records has taken these bytes.
abbrev pub HasCaptured : CaptureReader → List CaptureParts → List ℕ → Type 0
HasCaptured Unread given bytes = (given ≡ []) × (bytes ≡ [])
HasCaptured (OfPcap state) given bytes = HasCapturedPcap state given bytes
HasCaptured (OfPcapng state) given bytes = HasCapturedPcapng state given bytes

-- From one reader to the next: it took bytes from the front of the piece, and gave these records.
pub record TakesCapture (old new : CaptureReader) (given : List CaptureParts) (piece rest : List ℕ) : Type 0 where
  pub used : List ℕ
  pub piece_is : piece ≡ used ++ rest
  pub captures : (records : List CaptureParts) (bytes : List ℕ) → HasCaptured old records bytes → HasCaptured new (records ++ given) (bytes ++ used)

-- that a file is no pcap file, or no pcapng file, says that it is no capture; all other faults are
-- those of the format
abbrev pub fault_of_pcap : PcapFault → CaptureFault
fault_of_pcap NotPcap = NoCapture
fault_of_pcap fault = Pcap fault

abbrev pub fault_of_pcapng : PcapngFault → CaptureFault
fault_of_pcapng NoSectionHeader = NoCapture
fault_of_pcapng fault = Pcapng fault

-- the fault that ended a reader
abbrev pub capture_fault : CaptureReader → Option CaptureFault
capture_fault Unread = None
capture_fault (OfPcap state) = option_map fault_of_pcap state.fault
capture_fault (OfPcapng state) = option_map fault_of_pcapng state.fault

-- what a fault says of all bytes that came, the piece among them
abbrev pub HasCaptureFault : List CaptureParts → List ℕ → CaptureFault → Type 0
HasCaptureFault given bytes NoCapture = Reports bytes NotPcap ⊎ HasFault given bytes NoSectionHeader
HasCaptureFault given bytes (Pcap fault) = Reports bytes fault
HasCaptureFault given bytes (Pcapng fault) = HasFault given bytes fault

-- a capture may end here
abbrev pub IsWholeCapture : CaptureReader → Type 0
IsWholeCapture Unread = ⊥
IsWholeCapture (OfPcap state) = IsAtEnd state
IsWholeCapture (OfPcapng state) = IsBetweenBlocks state
