-- At each read of a capture, just the file of all records that were read before stood flushed in
-- the output.
use Rattle.std.proofs.Common.{◌≡◌, Option, List, ℕ, [], ◌++◌, ap, subst, ◌∙◌, append-nil}
use Rattle.std.specs.Io.KnownBytes.{Appends, Consumes}
use Rattle.std.proofs.KnownBytes.{Appends-trans}
use Rattle.capture_map.specs.declared.map.CaptureMap.{CaptureMap}
use Rattle.engines.specs.FlushedReads.{FlushedRead, MakesReads, ReadsBehindText}
use Rattle.engines.proofs.ShownReads.{ReadsSoFar, reads-none, reads-more}
use Rattle.frame_engine.specs.declared.settings.CaptureSettings.{CaptureSettings}
use Rattle.frame_engine.specs.declared.frame_reading.FrameReading.{FrameReading}
use Rattle.frame_engine.specs.Joined.{IsJoinedSoFar}
use Rattle.frame_engine.specs.Joining.{IsFileSoFar}
use Rattle.frame_engine.specs.Inside.Joins.{HasReadBytes}
use Rattle.frame_engine.proofs.Reading.{joined-file}

module _ {R : Type 0} (after : R → List FlushedRead → R → Type 0) (settings : CaptureSettings) (capture_map : CaptureMap) (start : R) (known first : Option (List ℕ)) where
  -- So far these bytes were joined, and the file of them was written behind what the output held at
  -- first; the reader gave just these bytes, at reads that were all behind the file of what was
  -- read.
  pub record JoinsShown (left held : Option (List ℕ)) (now : R) (reading : FrameReading) : Type 0 where
    pub bytes : List ℕ
    pub text : List ℕ
    pub has : HasReadBytes settings capture_map bytes text reading
    pub wrote : Appends first held text
    pub reads : ReadsSoFar (IsFileSoFar settings capture_map) first after start known left now bytes

  module _ (left held : Option (List ℕ)) (now : R) (reading : FrameReading) (far : JoinsShown left held now reading) (empty : reading.joining.file.bytes.items ≡ [])
      (left' : Option (List ℕ)) (now' : R) (piece : List ℕ) (makes : MakesReads after held now now' piece) (read : Consumes left left' piece) where
    -- all that came of the records is written
    file_now : IsFileSoFar settings capture_map far.bytes far.text
    file_now = record {
      reader = reading.reader;
      records = far.has.records;
      captured = far.has.captured;
      joined =
          subst (λ (text : List ℕ). IsJoinedSoFar settings capture_map far.has.records text)
          (ap (λ (items : List ℕ). far.text ++ items) empty ∙ append-nil far.text) (joined-file settings capture_map far.has.records far.text reading.joining far.has.joined);
    }

    -- one read more was made
    read_on : ReadsSoFar (IsFileSoFar settings capture_map) first after start known left' now' (far.bytes ++ piece)
    read_on =
        reads-more (IsFileSoFar settings capture_map) first after start known left left' held now now' far.bytes piece far.text far.reads file_now far.wrote makes read

    pub shown-read : ReadsBehindText (IsFileSoFar settings capture_map) first after known left' start now'
    shown-read = read_on.all

    -- and what it gave was joined and written
    pub shown-more : (held' : Option (List ℕ)) (reading' : FrameReading) (more : List ℕ) → HasReadBytes settings capture_map (far.bytes ++ piece) (far.text ++ more) reading'
        → Appends held held' more → JoinsShown left' held' now' reading'
    shown-more held' reading' more has wrote =
        record { bytes = far.bytes ++ piece; text = far.text ++ more; has = has; wrote = Appends-trans first held held' far.text more far.wrote wrote; reads = read_on }

module _ {R : Type 0} (after : R → List FlushedRead → R → Type 0) (settings : CaptureSettings) (capture_map : CaptureMap) (start : R) (known first : Option (List ℕ)) where
  -- no read was made
  pub shown-none : (now : R) → after start [] now → ReadsBehindText (IsFileSoFar settings capture_map) first after known known start now
  shown-none now made = (reads-none (IsFileSoFar settings capture_map) first after start known now made).all

  -- nothing was read, and the header was written
  pub shown-begun : (held : Option (List ℕ)) (now : R) (reading : FrameReading) (text : List ℕ) → after start [] now → HasReadBytes settings capture_map [] text reading
      → Appends first held text → JoinsShown after settings capture_map start known first known held now reading
  shown-begun held now reading text made has wrote =
      record { bytes = []; text = text; has = has; wrote = wrote; reads = reads-none (IsFileSoFar settings capture_map) first after start known now made }
