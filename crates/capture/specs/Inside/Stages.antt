-- Which part of a file is next, and what of it was read.
use Rattle.std.specs.Prelude.{ℕ, ◌<◌, ◌≤◌, List, [], ◌++◌, length, Option, Some, None}
use Rattle.capture.specs.declared.pcap.PcapHeader.{PcapHeader}
use Rattle.capture.specs.declared.pcap_step.Stage.{Stage}
use Rattle.capture.specs.declared.pcap_step.Stage.TheVariants.{Header, Head, Bytes}
use Rattle.capture.specs.declared.pcap_fault.PcapFault.{PcapFault}
use Rattle.capture.specs.Pcap.{RecordParts, head_bytes, FitsHead, longest_record}
use Rattle.capture.specs.PcapReading.{GoesOn, HasGiven, MovesOn, Reports}

abbrev pub header_of : Stage → Option PcapHeader
header_of Header = None
header_of (Head header) = Some header
header_of (Bytes header head) = Some header

-- the bytes of the record that is next, which were read already
abbrev pub stage_bytes : Stage → List ℕ
stage_bytes Header = []
stage_bytes (Head header) = []
stage_bytes (Bytes header head) = head_bytes header.endian head

-- so many bytes are fewer than the part has
abbrev pub IsInStep : Stage → ℕ → Type 0
IsInStep Header size = size < 24
IsInStep (Head header) size = size < 16
IsInStep (Bytes header head) size = (size < head.captured) × (head.captured ≤ longest_record) × FitsHead head

-- from a stage with what is pending to the next one, with the records that were given and what is
-- left of the piece
pub record Passes (stage : Stage) (pending : List ℕ) (stage' : Stage) (pending' : List ℕ) (given : List RecordParts) (piece rest : List ℕ) : Type 0 where
  pub in_step : IsInStep stage' (length pending')
  pub moves : MovesOn piece rest
  pub goes_on : GoesOn (header_of stage) (stage_bytes stage ++ pending) (header_of stage') (stage_bytes stage' ++ pending') given piece rest

-- a fault that comes at a stage, with this piece
abbrev pub IsFaultAt : Stage → List ℕ → List ℕ → PcapFault → Type 0
IsFaultAt stage pending piece fault = (records : List RecordParts) (bytes : List ℕ) → HasGiven (header_of stage) records (stage_bytes stage ++ pending) bytes
    → Reports (bytes ++ piece) fault
