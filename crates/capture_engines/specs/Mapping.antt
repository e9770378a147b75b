-- The map of a capture, and why there is none.
use Rattle.std.specs.Prelude.{◌≡◌, ◌≢◌, ◌≤◌, ◌-◌, ◌^◌, ◌⊎◌, ℕ, ◌==◌, List, [], ◌++◌, length, Option, true, false, Result, Err, IfSome, IfErr, OnOk, if◌then◌else◌}
use Rattle.std.specs.Io.KnownBytes.{Keeps, IsAtEnd}
use Rattle.capture.specs.PcapngBlocks.{CaptureParts}
use Rattle.capture.specs.Captures.{HasCaptured, HasCaptureFault, IsWholeCapture}
use Rattle.capture.specs.declared.capture_reader.CaptureReader.{CaptureReader}
use Rattle.registrations.specs.declared.unfinished.Unfinished.{Unfinished}
use Rattle.registered_map.specs.Registered.{CapturedMessage, Registered, registered}
use Rattle.registered_map.specs.MapText.{map_text}
use Rattle.seen_sids.specs.Seen.{Seen}
use Rattle.seen_sids.specs.SeenText.{seen_text}
use Rattle.engines.specs.declared.device.Device.{Device}
use Rattle.engines.specs.declared.fault.EngineFault.{EngineFault}
use Rattle.engines.specs.declared.fault.EngineFault.TheVariants.{Trace, Cut, Capture, OutOfMemory, Read, Write, Usage}
use Rattle.engines.specs.declared.fault.PlacedFault.{PlacedFault}
use Rattle.engines.specs.Device.{inner_of, has_failed, given_of}
use Rattle.engines.specs.Engine.{WritesText, WritesFront}
use Rattle.engines.specs.Transfer.{IsLeftFlushed}
use Rattle.capture_engines.specs.Telling.{counted, TellAll}

-- where no SID was added, what was seen stands above the map
abbrev pub text_of : Registered → Seen → List ℕ
text_of map seen = (if length map.sids == 0 then seen_text seen else []) ++ map_text map

-- the text is the map of what these records tell
pub record IsMapOf (records : List CaptureParts) (text : List ℕ) : Type 0 where
  pub end : Unfinished
  pub messages : List CapturedMessage
  pub seen : Seen
  pub told : TellAll records end messages seen
  pub text_is : text ≡ text_of (registered messages) seen

-- **The text is the map of the capture that these bytes are.**
pub record IsMapText (input text : List ℕ) : Type 0 where
  pub reader : CaptureReader
  pub records : List CaptureParts
  pub captured : HasCaptured reader records input
  pub whole : IsWholeCapture reader
  pub map : IsMapOf records text

-- Bytes are no capture: what comes behind so many records of them is at fault, whatever follows; or
-- they end too early.
pub data IsFaultyCapture (input : List ℕ) (fault : PlacedFault) : Type 0 where
  within : (records : List CaptureParts) (front back : List ℕ) → input ≡ front ++ back → HasCaptureFault records front fault.fault
      → fault.records ≡ counted records → IsFaultyCapture input fault
  at_end : (records : List CaptureParts) (reader : CaptureReader) → HasCaptured reader records input → ¬ IsWholeCapture reader
      → fault.records ≡ counted records → IsFaultyCapture input fault

-- why no map was written: the capture is at fault; an allocation failed; the reader, which failed
-- or gave 2^64 − 1 bytes; the writer
abbrev pub HasMapCause : {R W : Type 0} → Option (List ℕ) → Device R → Device W → EngineFault → Type 0
HasMapCause known reader writer (Capture fault) = IfSome known (λ input. IsFaultyCapture input fault)
HasMapCause known reader writer OutOfMemory = Unit {0}
HasMapCause known reader writer Read = (has_failed reader ≡ true) ⊎ (2 ^ 64 - 1 ≤ given_of reader)
HasMapCause known reader writer Write = has_failed writer ≡ true
HasMapCause known reader writer (Trace fault) = ⊥
HasMapCause known reader writer (Cut fault) = ⊥
HasMapCause known reader writer Usage = ⊥

-- What the map of a capture promises: `remaining` are the bytes that a reader is known to have
-- left, `contents` those that a writer is known to hold.
pub record MapsCapture {R W : Type 0} (remaining : R → Option (List ℕ)) (contents : W → Option (List ℕ))
    (reader reader' : Device R) (writer writer' : Device W) (result : Result (Unit {0}) EngineFault) : Type 0 where
  -- where the reader's bytes are known, exactly the text of their map is written, a front of it
  -- where the writer fails, and nothing on any other fault
  pub written : OnOk result (IfSome (remaining (inner_of reader)) (WritesText IsMapText (contents (inner_of writer)) (contents (inner_of writer'))))
  pub write_fault : result ≡ Err Write → IfSome (remaining (inner_of reader)) (WritesFront IsMapText (contents (inner_of writer)) (contents (inner_of writer')))
  pub nothing_written : IfErr result (λ fault. fault ≢ Write → Keeps (contents (inner_of writer)) (contents (inner_of writer')))
  -- without a fault all that was written is flushed
  pub flushed : OnOk result (IsLeftFlushed writer writer')
  -- each fault has its cause, and without a fault there is none
  pub cause : IfErr result (HasMapCause (remaining (inner_of reader)) reader' writer')
  pub no_cause : OnOk result ((has_failed reader' ≡ false) × IsAtEnd (remaining (inner_of reader')) × (has_failed writer' ≡ false))
