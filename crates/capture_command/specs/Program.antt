-- What the command `capture` does.
use Rattle.std.specs.Prelude.{◌≡◌, ◌⊎◌, ℕ, Bool, true, List, [], Option, Result, Ok, Err, IfSome, IfErr, OnOk, OnErr}
use Rattle.capture_map.specs.declared.map.CaptureMap.{CaptureMap}
use Rattle.capture_map.specs.Reading.{IsMap}
use Rattle.engines.specs.declared.device.Device.{Device}
use Rattle.engines.specs.declared.fault.EngineFault.{EngineFault}
use Rattle.engines.specs.Device.{inner_of, has_failed, is_flushed, IsFresh}
use Rattle.frame_engine.specs.declared.settings.CaptureSettings.{CaptureSettings}
use Rattle.frame_engine.specs.Joining.{JoinsCapture, IsFileSoFar}
use Rattle.capture_command.specs.declared.command_fault.CaptureCommandFault.{CaptureCommandFault}
use Rattle.capture_command.specs.declared.command_fault.CaptureCommandFault.TheVariants.{Engine}
use Rattle.engines.specs.declared.fault.EngineFault.TheVariants.{Write}
use Rattle.engines.specs.Engine.{WritesText}
use Rattle.engines.specs.FlushedReads.{FlushedRead, ReadsBehindText}
use Rattle.engines.specs.Transfer.{AppendsFront}
use Rattle.frame_engine.specs.Judged.{HasTheAnalysersFrames}
use Rattle.std.specs.Io.KnownBytes.{Appends}
use Rattle.command_line.specs.declared.command.UsageFault.{UsageFault}
use Rattle.capture_command.specs.Fault.{status_of, words_fault, fault_line}
use Rattle.capture_command.specs.Progress.{SaysAsked}
use Rattle.capture_command.specs.Asked.{AskForSettings, AskToCompare, AskForHelp}

-- 0 where the work was done
abbrev pub status_of_outcome : Result (Unit {0}) CaptureCommandFault → ℕ
status_of_outcome (Ok done) = 0
status_of_outcome (Err fault) = status_of fault

-- the line of a fault was written and flushed; or a front of it, where that or a write before it
-- failed; and where there is no fault nothing was written
abbrev pub IsReported : {E : Type 0} → (E → Option (List ℕ)) → Result (Unit {0}) CaptureCommandFault → Device E → Device E → Type 0
IsReported reported (Ok done) err err' = err' ≡ err
IsReported reported (Err fault) err err' =
    (Appends (reported (inner_of err)) (reported (inner_of err')) (fault_line fault) × (is_flushed err' ≡ true) × (has_failed err' ≡ has_failed err))
    ⊎ (AppendsFront (reported (inner_of err)) (reported (inner_of err')) (fault_line fault) × (has_failed err' ≡ true))

-- what came of the engine is told: its fault, and done only if it was done
pub record IsTold (joined : Result (Unit {0}) EngineFault) (result : Result (Unit {0}) CaptureCommandFault) : Type 0 where
  pub fault : IfErr joined (λ fault. result ≡ Err (Engine fault))
  pub done : OnOk result (joined ≡ Ok tt)

-- these are all bytes that a reader has left, where those are known
abbrev pub AreAllOf : Option (List ℕ) → List ℕ → Type 0
AreAllOf known text = IfSome known (λ bytes. bytes ≡ text)

-- **the map is what all bytes of a file spell**
pub record IsMapOfFile {File : Type 0} (bytes_of : File → Option (List ℕ)) (capture_map : CaptureMap) : Type 0 where
  pub file : File
  pub text : List ℕ
  pub all : AreAllOf (bytes_of file) text
  pub is : IsMap text capture_map

module _ {R W File : Type 0} (remaining : R → Option (List ℕ)) (contents : W → Option (List ℕ)) (bytes_of : File → Option (List ℕ)) where
  -- neither device was used, and a fault says why
  pub record IsRefused (reader reader' : Device R) (writer writer' : Device W) (result : Result (Unit {0}) CaptureCommandFault) : Type 0 where
    pub fault : CaptureCommandFault
    pub is : result ≡ Err fault
    pub unread : reader' ≡ reader
    pub unwritten : writer' ≡ writer

  -- **The capture was joined with the map that a file holds**, and with these settings. Where
  -- frames were to be compared and all was done, those that were written are the analyser's.
  pub record JoinsByMap (settings : CaptureSettings) (compares : Bool) (reader reader' : Device R) (writer writer' : Device W) (result : Result (Unit {0}) CaptureCommandFault) : Type 0 where
    pub capture_map : CaptureMap
    pub map_is : IsMapOfFile bytes_of capture_map
    pub joined : Result (Unit {0}) EngineFault
    pub joins : JoinsCapture settings capture_map remaining contents reader reader' writer writer' joined
    pub told : IsTold joined result
    pub same : compares ≡ true → OnOk result (IfSome (remaining (inner_of reader)) (WritesText (HasTheAnalysersFrames settings capture_map) (contents (inner_of writer)) (contents (inner_of writer'))))

  abbrev pub Captures : CaptureSettings → Bool → Device R → Device R → Device W → Device W → Result (Unit {0}) CaptureCommandFault → Type 0
  Captures settings compares reader reader' writer writer' result = JoinsByMap settings compares reader reader' writer writer' result ⊎ IsRefused reader reader' writer writer' result

  -- **Help was written** that words ask for: a text, whole or, where the writer failed, a front of
  -- it; the reader wasn't used
  pub record PrintsHelp (words : List (List ℕ)) (reader reader' : Device R) (writer writer' : Device W) (result : Result (Unit {0}) CaptureCommandFault) : Type 0 where
    pub asked : AskForHelp words
    pub unread : reader' ≡ reader
    pub text : List ℕ
    pub written : OnOk result (Appends (contents (inner_of writer)) (contents (inner_of writer')) text)
    pub front : OnErr result (AppendsFront (contents (inner_of writer)) (contents (inner_of writer')) text)
    pub fault : IfErr result (λ fault. fault ≡ Engine Write)

  -- what words came to: a capture was joined by the settings that they ask for, or nothing was; or
  -- help was written that they ask for, and the reader wasn't used; or they were refused
  pub data Obeys (words : List (List ℕ)) (reader reader' : Device R) (writer writer' : Device W) (result : Result (Unit {0}) CaptureCommandFault) : Type 0 where
    captures : (settings : CaptureSettings) (compares : Bool) → AskForSettings words settings → AskToCompare words compares → Captures settings compares reader reader' writer writer' result
        → Obeys words reader reader' writer writer' result
    helps : PrintsHelp words reader reader' writer writer' result → Obeys words reader reader' writer writer' result
    refuses : IsRefused reader reader' writer writer' result → Obeys words reader reader' writer writer' result

  -- words were refused for themselves, or since an allocation failed; neither device was used
  pub record RefusesWords (reader reader' : Device R) (writer writer' : Device W) (result : Result (Unit {0}) CaptureCommandFault) : Type 0 where
    pub fault : UsageFault
    pub is : result ≡ Err (words_fault fault)
    pub unread : reader' ≡ reader
    pub unwritten : writer' ≡ writer

  -- **what comes of words is of what they ask for, or their own fault**: so a fault of another
  -- kind, and a capture that was joined, is of words that ask to capture, or for help
  abbrev pub DoesAsked : List (List ℕ) → Device R → Device R → Device W → Device W → Result (Unit {0}) CaptureCommandFault → Type 0
  DoesAsked words reader reader' writer writer' result =
      ((settings : CaptureSettings) × (compares : Bool) × AskForSettings words settings × AskToCompare words compares × Captures settings compares reader reader' writer writer' result)
      ⊎ PrintsHelp words reader reader' writer writer' result ⊎ RefusesWords reader reader' writer writer' result

  -- so over fresh devices on these; and to a fresh one on a third writer it was said how the work
  -- went, and then its fault was reported
  pub record ComesOf {E : Type 0} (told : E → Option (List ℕ)) (words : List (List ℕ)) (reader : R) (writer : W) (err : E) (result : Result (Unit {0}) CaptureCommandFault) : Type 0 where
    pub input : Device R
    pub input' : Device R
    pub output : Device W
    pub output' : Device W
    pub errors : Device E
    pub errors' : Device E
    pub errors'' : Device E
    pub reads : inner_of input ≡ reader
    pub writes : inner_of output ≡ writer
    pub tells : inner_of errors ≡ err
    pub fresh : IsFresh input × IsFresh output × IsFresh errors
    pub obeyed : Obeys words input input' output output' result
    pub does : DoesAsked words input input' output output' result
    pub says : SaysAsked remaining told words input input' errors errors'
    pub report : IsReported told result errors' errors''

  module _ (after : R → List FlushedRead → R → Type 0) where
    -- **The capture was joined with the map that a file holds, and at each read just the file of
    -- all records that were read before stood flushed in the output**: by the relation that the
    -- reader keeps.
    pub record JoinsBehindFile (settings : CaptureSettings) (reader reader' : R) (writer : W) (start : R) : Type 0 where
      pub capture_map : CaptureMap
      pub map_is : IsMapOfFile bytes_of capture_map
      pub shown : ReadsBehindText (IsFileSoFar settings capture_map) (contents writer) after (remaining reader) (remaining reader') start reader'

    -- so with these settings, or nothing was read
    abbrev pub ShowsJoined : CaptureSettings → R → R → W → Type 0
    ShowsJoined settings reader reader' writer = (start : R) → after start [] reader → JoinsBehindFile settings reader reader' writer start ⊎ (reader' ≡ reader)

    -- with those that the words ask for
    abbrev pub ShowsCaptured : List (List ℕ) → R → R → W → Type 0
    ShowsCaptured words reader reader' writer =
        ((settings : CaptureSettings) × AskForSettings words settings × ShowsJoined settings reader reader' writer) ⊎ (reader' ≡ reader)
