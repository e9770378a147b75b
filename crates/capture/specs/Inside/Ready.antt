-- A reader of captures that knows by the piece which of the two it is.
use Rattle.std.specs.Prelude.{◌≡◌, ℕ, List, [], ◌++◌}
use Rattle.capture.specs.Pcap.{RecordParts}
use Rattle.capture.specs.PcapReading.{PcapState, StandsFor}
use Rattle.capture.specs.PcapngBlocks.{CaptureParts}
use Rattle.capture.specs.PcapngReading.{PcapngState, HasRead}
use Rattle.capture.specs.Captures.{captured_records, BeginsOtherwise, BeginsAsPcapng}
use Rattle.capture.specs.declared.capture_reader.CaptureReader.{CaptureReader}
use Rattle.capture.specs.declared.capture_reader.CaptureReader.TheVariants.{Unread, OfPcap, OfPcapng}

-- A reader that gave these records, has taken these bytes and knows by them and this piece which of
-- the two it is.
pub record IsReadyPcap (state : PcapState) (piece : List ℕ) (given : List CaptureParts) (bytes : List ℕ) : Type 0 where
  pub records : List RecordParts
  pub stands : StandsFor state records bytes
  pub given_is : given ≡ captured_records state.header records
  pub begins : BeginsOtherwise (bytes ++ piece)

pub record IsReadyPcapng (state : PcapngState) (piece : List ℕ) (given : List CaptureParts) (bytes : List ℕ) : Type 0 where
  pub read : HasRead state given bytes
  pub begins : BeginsAsPcapng (bytes ++ piece)

abbrev pub IsReady : CaptureReader → List ℕ → List CaptureParts → List ℕ → Type 0
IsReady Unread piece given bytes = (given ≡ []) × (bytes ≡ []) × (piece ≡ [])
IsReady (OfPcap state) piece given bytes = IsReadyPcap state piece given bytes
IsReady (OfPcapng state) piece given bytes = IsReadyPcapng state piece given bytes
