-- What the command `capture` promises.
use Rattle.std.specs.Prelude.{◌≡◌, ◌≢◌, ◌≤◌, ◌-◌, ◌^◌, ◌⊎◌, ℕ, List, [], ◌++◌, Option, true, false, Result, Err, IfSome, IfErr, OnOk}
use Rattle.std.specs.Io.KnownBytes.{Appends, Consumes, IsAtEnd}
use Rattle.capture.specs.PcapngBlocks.{CaptureParts}
use Rattle.capture.specs.Captures.{HasCaptured, HasCaptureFault, IsWholeCapture}
use Rattle.capture.specs.declared.capture_reader.CaptureReader.{CaptureReader}
use Rattle.capture_map.specs.declared.map.CaptureMap.{CaptureMap}
use Rattle.engines.specs.declared.device.Device.{Device}
use Rattle.engines.specs.declared.fault.EngineFault.{EngineFault}
use Rattle.engines.specs.declared.fault.EngineFault.TheVariants.{Trace, Cut, Capture, OutOfMemory, Read, Write, Usage}
use Rattle.engines.specs.declared.fault.PlacedFault.{PlacedFault}
use Rattle.engines.specs.Device.{inner_of, has_failed, given_of, is_read_behind_flushes}
use Rattle.engines.specs.Engine.{WritesText}
use Rattle.engines.specs.Transfer.{AppendsFront, IsLeftFlushed}
use Rattle.frame_engine.specs.declared.settings.CaptureSettings.{CaptureSettings}
use Rattle.frame_engine.specs.Records.{counted}
use Rattle.frame_engine.specs.Joined.{IsJoinedSoFar, IsJoinedAtEnd, IsJoinedFile}

-- these are the records of a front of some bytes, and this is the rest
pub record AreInFront (bytes : List ℕ) (records : List CaptureParts) (rest : List ℕ) : Type 0 where
  pub reader : CaptureReader
  pub front : List ℕ
  pub captured : HasCaptured reader records front
  pub are : bytes ≡ front ++ rest

-- where the capture is at fault, this many records stand before it; where the reader failed,
-- nothing more was read
abbrev pub IsBehindThem : List CaptureParts → List ℕ → EngineFault → Type 0
IsBehindThem records rest (Capture fault) = fault.records ≡ counted records
IsBehindThem records rest Read = rest ≡ []
IsBehindThem records rest _ = Unit {0}

-- Bytes are no capture: what comes behind these records of them is at fault, whatever follows; or
-- they end too early.
pub data IsFaultBehind (input : List ℕ) (fault : PlacedFault) : Type 0 where
  within : (records : List CaptureParts) (front back : List ℕ) → input ≡ front ++ back → HasCaptureFault records front fault.fault
      → fault.records ≡ counted records → IsFaultBehind input fault
  at_end : (records : List CaptureParts) (reader : CaptureReader) → HasCaptured reader records input → ¬ IsWholeCapture reader
      → fault.records ≡ counted records → IsFaultBehind input fault

-- why no more of a capture was joined: it is at fault; an allocation failed; the reader, which
-- failed or gave 2^64 − 1 bytes; the writer
abbrev pub HasJoinCause : {R W : Type 0} → Option (List ℕ) → Device R → Device W → EngineFault → Type 0
HasJoinCause known reader writer (Capture fault) = IfSome known (λ input. IsFaultBehind input fault)
HasJoinCause known reader writer OutOfMemory = Unit {0}
HasJoinCause known reader writer Read = (has_failed reader ≡ true) ⊎ (2 ^ 64 - 1 ≤ given_of reader)
HasJoinCause known reader writer Write = has_failed writer ≡ true
HasJoinCause known reader writer (Trace fault) = ⊥
HasJoinCause known reader writer (Cut fault) = ⊥
HasJoinCause known reader writer Usage = ⊥

module _ (settings : CaptureSettings) (capture_map : CaptureMap) where
  -- **How far some bytes were joined** where a fault is reported, and the file so far: not at all,
  -- where an allocation failed at the start; all records before the fault; or all records and what
  -- waited, where an allocation failed when the receiver was closed.
  pub data IsJoinedTill (bytes : List ℕ) (fault : EngineFault) (text : List ℕ) : Type 0 where
    not_begun : fault ≡ OutOfMemory → text ≡ [] → IsJoinedTill bytes fault text
    so_far : (records : List CaptureParts) (rest : List ℕ) → AreInFront bytes records rest → IsBehindThem records rest fault
        → IsJoinedSoFar settings capture_map records text → IsJoinedTill bytes fault text
    to_end : (reader : CaptureReader) (records : List CaptureParts) → HasCaptured reader records bytes → IsWholeCapture reader
        → (fault ≡ OutOfMemory) ⊎ (fault ≡ Write) → IsJoinedAtEnd settings capture_map records text → IsJoinedTill bytes fault text

  -- **This is the file of all records of some bytes** that are whole in them.
  pub record IsFileSoFar (bytes text : List ℕ) : Type 0 where
    pub reader : CaptureReader
    pub records : List CaptureParts
    pub captured : HasCaptured reader records bytes
    pub joined : IsJoinedSoFar settings capture_map records text

  -- so of what a reader gave
  pub record IsJoinedOf (known left : Option (List ℕ)) (fault : EngineFault) (text : List ℕ) : Type 0 where
    pub bytes : List ℕ
    pub read : Consumes known left bytes
    pub till : IsJoinedTill bytes fault text

  -- **What joining a capture promises**, whatever becomes of it: `remaining` are the bytes that a
  -- reader is known to have left, `contents` those that a writer is known to hold.
  pub record JoinsCapture {R W : Type 0} (remaining : R → Option (List ℕ)) (contents : W → Option (List ℕ))
      (reader reader' : Device R) (writer writer' : Device W) (result : Result (Unit {0}) EngineFault) : Type 0 where
    -- without a fault the file of all that the reader gave was written
    pub written : OnOk result (IfSome (remaining (inner_of reader)) (WritesText (IsJoinedFile settings capture_map) (contents (inner_of writer)) (contents (inner_of writer'))))
    -- **wherever a fault ends it**, the frames of the records before it were written
    pub above : IfErr result (λ fault. fault ≢ Write → (text : List ℕ)
        × IsJoinedOf (remaining (inner_of reader)) (remaining (inner_of reader')) fault text × Appends (contents (inner_of writer)) (contents (inner_of writer')) text)
    -- and where the writer failed, a front of such a file
    pub write_fault : result ≡ Err Write → (text : List ℕ)
        × (IfSome (remaining (inner_of reader)) (λ input. IsJoinedFile settings capture_map input text)
        ⊎ IsJoinedOf (remaining (inner_of reader)) (remaining (inner_of reader')) Write text)
        × AppendsFront (contents (inner_of writer)) (contents (inner_of writer')) text
    -- what was written is flushed
    pub flushed : OnOk result (IsLeftFlushed writer writer')
    pub flushed_above : IfErr result (λ fault. fault ≢ Write → IsLeftFlushed writer writer')
    -- **each read was made behind a flush**, whatever the result: by no other call than
    -- `read_behind`, which requires that all that was written to the writer that it names is
    -- flushed
    pub behind_flushes : is_read_behind_flushes reader' ≡ true
    -- each fault has its cause, and without a fault there is none
    pub cause : IfErr result (HasJoinCause (remaining (inner_of reader)) reader' writer')
    pub no_cause : OnOk result ((has_failed reader' ≡ false) × IsAtEnd (remaining (inner_of reader')) × (has_failed writer' ≡ false))
