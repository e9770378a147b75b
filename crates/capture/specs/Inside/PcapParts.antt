-- What is taken from a piece for the part of a file that is next.
use Rattle.std.specs.Prelude.{◌≡◌, ℕ, ◌<◌, ◌≤◌, List, [], ◌++◌, length, Option, Some, None}
use Rattle.capture.specs.declared.endian.Endian.{Endian}
use Rattle.capture.specs.declared.pcap.PcapHeader.{PcapHeader}
use Rattle.capture.specs.declared.pcap.RecordHead.{RecordHead}
use Rattle.capture.specs.declared.pcap_fault.PcapFault.{PcapFault}
use Rattle.capture.specs.declared.pcap_fault.PcapFault.TheVariants.{NotPcap, RecordTooLong, EndsInside, OutOfMemory}
use Rattle.capture.specs.Pcap.{header_bytes, head_bytes, FitsHead, FitsHeader, longest_record}
use Rattle.capture.specs.PcapReading.{IsNoPcap}

-- with bytes from the front of the piece, what is pending becomes the whole, and the rest is left
pub record Completes (pending whole piece rest : List ℕ) : Type 0 where
  pub used : List ℕ
  pub whole_is : whole ≡ pending ++ used
  pub piece_is : piece ≡ used ++ rest

-- all of the piece was taken, and the part isn't whole
pub record Waits (size : ℕ) (old new piece rest : List ℕ) : Type 0 where
  pub completes : Completes old new piece rest
  pub all : rest ≡ []
  pub fewer : length new < size

pub record FindsHeader (old new piece rest : List ℕ) (header : PcapHeader) : Type 0 where
  pub completes : Completes old (header_bytes header) piece rest
  pub none : new ≡ []
  pub fits : FitsHeader header

abbrev pub TakesHeader : List ℕ → List ℕ → List ℕ → Option PcapHeader → List ℕ → Type 0
TakesHeader old new piece None rest = Waits 24 old new piece rest
TakesHeader old new piece (Some header) rest = FindsHeader old new piece rest header

-- a header was read, of whatever length
pub record SeesHead (endian : Endian) (old new piece rest : List ℕ) (head : RecordHead) : Type 0 where
  pub completes : Completes old (head_bytes endian head) piece rest
  pub none : new ≡ []
  pub fits : FitsHead head

abbrev pub ReadsHead : Endian → List ℕ → List ℕ → List ℕ → Option RecordHead → List ℕ → Type 0
ReadsHead endian old new piece None rest = Waits 16 old new piece rest
ReadsHead endian old new piece (Some head) rest = SeesHead endian old new piece rest head

pub record FindsHead (endian : Endian) (old new piece rest : List ℕ) (head : RecordHead) : Type 0 where
  pub completes : Completes old (head_bytes endian head) piece rest
  pub none : new ≡ []
  pub fits : FitsHead head
  pub short : head.captured ≤ longest_record

abbrev pub TakesHead : Endian → List ℕ → List ℕ → List ℕ → Option RecordHead → List ℕ → Type 0
TakesHead endian old new piece None rest = Waits 16 old new piece rest
TakesHead endian old new piece (Some head) rest = FindsHead endian old new piece rest head

pub record FindsBytes (captured : ℕ) (old new piece rest bytes : List ℕ) : Type 0 where
  pub completes : Completes old bytes piece rest
  pub none : new ≡ []
  pub size : length bytes ≡ captured

abbrev pub TakesBytes : ℕ → List ℕ → List ℕ → List ℕ → Option (List ℕ) → List ℕ → Type 0
TakesBytes captured old new piece None rest = Waits captured old new piece rest
TakesBytes captured old new piece (Some bytes) rest = FindsBytes captured old new piece rest bytes

-- the piece begins with a whole record
pub record SplitsRecord (endian : Endian) (head : RecordHead) (bytes rest piece : List ℕ) : Type 0 where
  pub piece_is : piece ≡ head_bytes endian head ++ bytes ++ rest
  pub fits : FitsHead head
  pub size : length bytes ≡ head.captured
  pub short : head.captured ≤ longest_record

-- a record of more than 1 MiB begins here
pub record IsTooLong (endian : Endian) (bytes : List ℕ) : Type 0 where
  pub head : RecordHead
  pub more : List ℕ
  pub spelled : bytes ≡ head_bytes endian head ++ more
  pub fits : FitsHead head
  pub long : longest_record < head.captured

-- the fault of a file's header, and of a record's
abbrev pub HeaderFault : List ℕ → PcapFault → Type 0
HeaderFault bytes NotPcap = IsNoPcap bytes
HeaderFault bytes RecordTooLong = ⊥
HeaderFault bytes EndsInside = ⊥
HeaderFault bytes OutOfMemory = Unit {0}

abbrev pub HeadFault : Endian → List ℕ → PcapFault → Type 0
HeadFault endian bytes NotPcap = ⊥
HeadFault endian bytes RecordTooLong = IsTooLong endian bytes
HeadFault endian bytes EndsInside = ⊥
HeadFault endian bytes OutOfMemory = Unit {0}
