-- What a reader of pcap has given of the bytes that it took, and what it holds back.
use Rattle.std.specs.Prelude.{◌≡◌, ℕ, ◌<◌, ◌≤◌, ◌⊎◌, List, [], ◌++◌, length, Option, Some, None}
use Rattle.std.specs.List.{AllByRecursion}
use Rattle.capture.specs.declared.endian.Endian.{Endian}
use Rattle.capture.specs.declared.pcap.PcapHeader.{PcapHeader}
use Rattle.capture.specs.declared.pcap.RecordHead.{RecordHead}
use Rattle.capture.specs.declared.pcap_fault.PcapFault.{PcapFault}
use Rattle.capture.specs.declared.pcap_fault.PcapFault.TheVariants.{NotPcap, RecordTooLong, EndsInside, OutOfMemory}
use Rattle.capture.specs.Pcap.{header_bytes, head_bytes, RecordParts, file_bytes, IsRecord, FitsHead, FitsHeader, longest_record}

-- what a reader knows: the file's header once it was read, the bytes after the last whole record,
-- or all bytes before the header is whole, and the fault that ended it, if one did
pub record PcapState : Type 0 where
  pub header : Option PcapHeader
  pub pending : List ℕ
  pub fault : Option PcapFault

-- less than a whole record: fewer bytes than its header, or the header and fewer bytes than it says
pub record IsPartOfRecord (endian : Endian) (pending : List ℕ) : Type 0 where
  pub head : RecordHead
  pub bytes : List ℕ
  pub spelled : pending ≡ head_bytes endian head ++ bytes
  pub fits : FitsHead head
  pub short : head.captured ≤ longest_record
  pub fewer : length bytes < head.captured

abbrev pub IsPending : Endian → List ℕ → Type 0
IsPending endian pending = (length pending < 16) ⊎ IsPartOfRecord endian pending

-- the bytes are a header, these records, and what is pending
pub record Splits (header : PcapHeader) (records : List RecordParts) (pending : List ℕ) (bytes : List ℕ) : Type 0 where
  pub spelled : bytes ≡ file_bytes header records ++ pending
  pub fits : FitsHeader header
  pub each : AllByRecursion IsRecord records
  pub rest : IsPending header.endian pending

-- before the header is whole: no record, and all bytes pending
pub record IsBeginning (records : List RecordParts) (pending : List ℕ) (bytes : List ℕ) : Type 0 where
  pub none : records ≡ []
  pub all : bytes ≡ pending
  pub short : length pending < 24

-- A reader in this state that gave these records has taken these bytes.
abbrev pub HasGiven : Option PcapHeader → List RecordParts → List ℕ → List ℕ → Type 0
HasGiven None records pending bytes = IsBeginning records pending bytes
HasGiven (Some header) records pending bytes = Splits header records pending bytes

abbrev pub StandsFor : PcapState → List RecordParts → List ℕ → Type 0
StandsFor state records bytes = (state.fault ≡ None) × HasGiven state.header records state.pending bytes

-- the header's 24 bytes are there, and are no header of a pcap file
pub record IsNoPcap (bytes : List ℕ) : Type 0 where
  pub enough : 24 ≤ length bytes
  pub none : (header : PcapHeader) (more : List ℕ) → bytes ≡ header_bytes header ++ more → ⊥

-- after some records one begins that is said to have more than 1 MiB
pub record HasLongRecord (bytes : List ℕ) : Type 0 where
  pub header : PcapHeader
  pub records : List RecordParts
  pub head : RecordHead
  pub more : List ℕ
  pub spelled : bytes ≡ file_bytes header records ++ head_bytes header.endian head ++ more
  pub each : AllByRecursion IsRecord records
  pub fits : FitsHead head
  pub long : longest_record < head.captured

-- what a fault says of all bytes that came, the piece among them
abbrev pub Reports : List ℕ → PcapFault → Type 0
Reports bytes NotPcap = IsNoPcap bytes
Reports bytes RecordTooLong = HasLongRecord bytes
Reports bytes EndsInside = ⊥
Reports bytes OutOfMemory = Unit {0}

-- of a piece that isn't empty something is taken
abbrev pub MovesOn : List ℕ → List ℕ → Type 0
MovesOn piece rest = 0 < length piece → length rest < length piece

-- From what a reader has given and holds back to what it then has given and holds back: it took
-- bytes from the front of the piece, and gave these records.
pub record GoesOn (header : Option PcapHeader) (pending : List ℕ) (header' : Option PcapHeader) (pending' : List ℕ) (given : List RecordParts)
    (piece rest : List ℕ) : Type 0 where
  pub used : List ℕ
  pub piece_is : piece ≡ used ++ rest
  pub stands : (records : List RecordParts) (bytes : List ℕ) → HasGiven header records pending bytes
      → HasGiven header' (records ++ given) pending' (bytes ++ used)

-- the same of the state, where no fault came before
pub record Takes (old new : PcapState) (given : List RecordParts) (piece rest : List ℕ) : Type 0 where
  pub no_fault : (old.fault ≡ None) × (new.fault ≡ None)
  pub goes_on : GoesOn old.header old.pending new.header new.pending given piece rest

-- all bytes that came are a header and whole records
pub record IsAtEnd (state : PcapState) : Type 0 where
  pub header : PcapHeader
  pub header_is : state.header ≡ Some header
  pub nothing : state.pending ≡ []
  pub no_fault : state.fault ≡ None
