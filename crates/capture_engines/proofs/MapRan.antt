-- What the map of a capture promises follows from what was read and what became of its text.
use Rattle.std.proofs.Common.{◌≡◌, ◌≢◌, ℕ, List, [], Option, Some, None, Ok, Err, false, refl, ap, subst, ◌∙◌}
use Rattle.std.specs.Prelude.{IfSome}
use Rattle.std.specs.Io.KnownBytes.{Appends, IsAtEnd}
use Rattle.std.proofs.KnownBytes.{Keeps-refl}
use Rattle.engines.specs.declared.device.Device.{Device}
use Rattle.engines.specs.declared.fault.WriteFault.{WriteFault}
use Rattle.engines.specs.declared.fault.EngineFault.TheVariants.{OutOfMemory, Write}
use Rattle.engines.specs.Device.{inner_of, has_failed}
use Rattle.engines.specs.Engine.{WritesText, WritesFront}
use Rattle.engines.specs.Transfer.{AppendsFront}
use Rattle.engines.specs.Writing.{IsWritten}
use Rattle.registered_map.specs.Holding.{registered_in}
use Rattle.seen_sids.specs.Seen.{seen_in}
use Rattle.capture_engines.specs.Mapping.{text_of, IsMapText, MapsCapture}
use Rattle.capture_engines.specs.Inside.Reading.{HasReadAll}
use Rattle.capture_engines.specs.declared.map_reading.MapReading.{MapReading}

-- the text of what was read is the map of the input
map_text_of : (known : Option (List ℕ)) (reading : MapReading) (all : HasReadAll known reading) → IsMapText all.input (text_of (registered_in reading.map) (seen_in reading.seen))
map_text_of known reading all =
    let mapped = all.mapped in
    let told = mapped.told in
    record {
      reader = reading.reader;
      records = mapped.records;
      captured = mapped.captured;
      whole = all.whole;
      map = record {
        end = reading.unfinished;
        messages = told.messages;
        seen = seen_in reading.seen;
        told = told.told;
        text_is = ap (λ map. text_of map (seen_in reading.seen)) told.registered_is;
      };
    }

module _ {R W : Type 0} (remaining : R → Option (List ℕ)) (contents : W → Option (List ℕ)) (reader reader' : Device R) (writer : Device W) where
  -- an allocation failed once all was read
  pub mapped-refused : MapsCapture remaining contents reader reader' writer writer (Err OutOfMemory)
  mapped-refused = record {
    written = tt;
    write_fault = λ is. absurd cc;
    nothing_written = λ other. Keeps-refl (contents (inner_of writer));
    flushed = tt;
    cause = tt;
    no_cause = tt;
  }

  -- the text of what is known was written, or a front of it
  text_of_known : (known old new : Option (List ℕ)) (input text : List ℕ) → IfSome known (λ bytes. input ≡ bytes) → IsMapText input text → Appends old new text
      → IfSome known (WritesText IsMapText old new)
  text_of_known None old new input text is stands written = tt
  text_of_known (Some bytes) old new input text is stands written = (text, subst (λ one. IsMapText one text) is stands, written)

  front_of_known : (known old new : Option (List ℕ)) (input text : List ℕ) → IfSome known (λ bytes. input ≡ bytes) → IsMapText input text → text ≢ []
      → AppendsFront old new text → IfSome known (WritesFront IsMapText old new)
  front_of_known None old new input text is stands some written = tt
  front_of_known (Some bytes) old new input text is stands some written = (text, subst (λ one. IsMapText one text) is stands, some, written)

  module _ (writer' : Device W) (reading : MapReading) (all : HasReadAll (remaining (inner_of reader)) reading) where
    -- the text was written
    pub mapped-written : (done : Unit {0}) → has_failed reader' ≡ false → IsAtEnd (remaining (inner_of reader')) → has_failed writer ≡ false
        → IsWritten contents (text_of (registered_in reading.map) (seen_in reading.seen)) writer writer' (Ok done)
        → MapsCapture remaining contents reader reader' writer writer' (Ok done)
    mapped-written done read_sound end sound wrote = record {
      written =
          text_of_known (remaining (inner_of reader)) (contents (inner_of writer)) (contents (inner_of writer')) all.input (text_of (registered_in reading.map) (seen_in reading.seen)) all.is
          (map_text_of (remaining (inner_of reader)) reading all) wrote.written;
      write_fault = λ is. absurd cc;
      nothing_written = tt;
      flushed = wrote.left_flushed;
      cause = tt;
      no_cause = (read_sound, end, wrote.sound ∙ sound);
    }

    -- the writer failed
    pub mapped-failed : (fault : WriteFault) → IsWritten contents (text_of (registered_in reading.map) (seen_in reading.seen)) writer writer' (Err fault)
        → MapsCapture remaining contents reader reader' writer writer' (Err Write)
    mapped-failed fault wrote = record {
      written = tt;
      write_fault = λ _.
          front_of_known (remaining (inner_of reader)) (contents (inner_of writer)) (contents (inner_of writer')) all.input (text_of (registered_in reading.map) (seen_in reading.seen)) all.is
          (map_text_of (remaining (inner_of reader)) reading all) wrote.some wrote.front;
      nothing_written = λ other. absurd (other refl);
      flushed = tt;
      cause = wrote.failed;
      no_cause = tt;
    }
