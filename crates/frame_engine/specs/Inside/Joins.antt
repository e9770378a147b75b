-- How far a capture was joined.
use Rattle.std.specs.Prelude.{◌≡◌, ℕ, Option, List, [], ◌∷◌, ◌++◌, ◌⊎◌, IsTrue, true, Result, MatchResult}
use Rattle.std.specs.Io.KnownBytes.{Appends}
use Rattle.captured_flows.specs.Acts.{Act, items_of}
use Rattle.selected_receiver.specs.Whole.{StandsForWhole}
use Rattle.capture.specs.PcapngBlocks.{CaptureParts}
use Rattle.capture.specs.Captures.{HasCaptured, HasCaptureFault, IsWholeCapture}
use Rattle.capture_map.specs.declared.map.CaptureMap.{CaptureMap}
use Rattle.captured_flows.specs.declared.captured_burst.CapturedBurst.{CapturedBurst}
use Rattle.captured_flows.specs.Capturing.{views_in}
use Rattle.captured_flows.specs.Steps.{CaptureStep, given_in}
use Rattle.engines.specs.declared.device.Device.{Device}
use Rattle.engines.specs.declared.fault.EngineFault.{EngineFault}
use Rattle.engines.specs.declared.fault.EngineFault.TheVariants.{Capture, OutOfMemory, Write}
use Rattle.engines.specs.Device.{inner_of, has_failed}
use Rattle.engines.specs.Transfer.{AppendsFront, IsLeftFlushed}
use Rattle.timed_frames.specs.declared.timed_step.TimedStep.{TimedStep}
use Rattle.timed_frames.specs.declared.timed_frames.TimedFrames.{TimedFrames}
use Rattle.timed_frames.specs.Timed.{Timed}
use Rattle.frame_engine.specs.declared.settings.CaptureSettings.{CaptureSettings}
use Rattle.frame_engine.specs.declared.frame_file.FrameFile.{FrameFile}
use Rattle.frame_engine.specs.declared.joining.Joining.{Joining}
use Rattle.frame_engine.specs.declared.frame_reading.FrameReading.{FrameReading}
use Rattle.frame_engine.specs.Settings.{inner_accepts}
use Rattle.frame_engine.specs.Records.{AreBurstsOf, counted}
use Rattle.frame_engine.specs.Written.{written_in}
use Rattle.frame_engine.specs.Joined.{made, check, none_handed_in, steps_seen, whole_file, ComesOf, ComesAtEnd, AreFramesSoFar, AreFramesAtEnd, AreAllFrames, IsJoinedSoFar, IsJoinedFile}
use Rattle.frame_engine.specs.Joining.{AreInFront, IsBehindThem, IsJoinedTill}

-- a file's link type and channels stay, and so what isn't written of it yet
pub record KeepsFile (old new : FrameFile) : Type 0 where
  pub link : new.link ≡ old.link
  pub channels : new.channels ≡ old.channels
  pub bytes : new.bytes.items ≡ old.bytes.items

-- all that waited came into the file, and nothing waits any more
pub record PutsCame (timed : TimedFrames) (file : FrameFile) (timed' : TimedFrames) (file' : FrameFile) : Type 0 where
  pub was_whole : IsTrue timed.whole
  pub whole : timed'.whole ≡ timed.whole
  pub lasts : timed'.lasts ≡ timed.lasts
  pub none_waits : timed'.waiting.items ≡ []
  pub link : file'.link ≡ file.link
  pub channels : file'.channels ≡ file.channels
  pub bytes : file'.bytes.items ≡ file.bytes.items ++ written_in file.link file.channels.items timed.waiting.items

module _ (settings : CaptureSettings) (capture_map : CaptureMap) where
  -- what came of these steps is in the file, of which this was written
  pub record HasFiled (steps : List CaptureStep) (written : List ℕ) (timed : TimedFrames) (file : FrameFile) : Type 0 where
    pub came : List TimedStep
    pub is_timed : Timed (none_handed_in settings capture_map) (steps_seen settings capture_map steps) came timed.lasts.items
    pub whole : IsTrue timed.whole
    pub none_waits : timed.waiting.items ≡ []
    pub link : file.link ≡ settings.link
    pub channels : file.channels.items ≡ capture_map.channels.items
    pub text : whole_file settings capture_map came ≡ written ++ file.bytes.items

  -- these bursts came, and what came of them is in the file
  pub record HasTaken (bursts : List CapturedBurst) (written : List ℕ) (joining : Joining) : Type 0 where
    pub handed : List Act
    pub steps : List CaptureStep
    pub comes : ComesOf settings capture_map bursts handed (views_in joining.flows) steps
    pub stands : StandsForWhole inner_accepts joining.flows.receiver (check settings capture_map) (made settings capture_map) (items_of handed) (given_in steps)
    pub map_is : joining.flows.map ≡ capture_map
    pub waits_are : joining.flows.waits ≡ settings.waits
    pub selected_are : joining.flows.receiver.selected ≡ settings.selected
    pub filed : HasFiled steps written joining.timed joining.file

  -- so when nothing more comes
  pub record HasEnded (bursts : List CapturedBurst) (written : List ℕ) (joining : Joining) : Type 0 where
    pub handed : List Act
    pub steps : List CaptureStep
    pub comes : ComesAtEnd settings capture_map bursts handed steps
    pub stands : StandsForWhole inner_accepts joining.flows.receiver (check settings capture_map) (made settings capture_map) (items_of handed) (given_in steps)
    pub selected_are : joining.flows.receiver.selected ≡ settings.selected
    pub filed : HasFiled steps written joining.timed joining.file

  -- these records came
  pub record HasJoined (records : List CaptureParts) (written : List ℕ) (joining : Joining) : Type 0 where
    pub bursts : List CapturedBurst
    pub are : AreBurstsOf records bursts
    pub taken_in : HasTaken bursts written joining
    pub count : joining.records ≡ counted records

  -- these bytes were read
  pub record HasReadBytes (bytes written : List ℕ) (reading : FrameReading) : Type 0 where
    pub records : List CaptureParts
    pub captured : HasCaptured reading.reader records bytes
    pub joined : HasJoined records written reading.joining

  -- the file of these bytes, whose end a fault lies behind
  pub record IsFileTill (bytes : List ℕ) (fault : EngineFault) (text : List ℕ) : Type 0 where
    pub records : List CaptureParts
    pub rest : List ℕ
    pub are : AreInFront bytes records rest
    pub behind : IsBehindThem records rest fault
    pub joined : IsJoinedSoFar settings capture_map records text

-- whatever came, this came besides
abbrev pub TakesBurst : Joining → CapturedBurst → Joining → Type 0
TakesBurst old burst new =
    (settings : CaptureSettings) (capture_map : CaptureMap) (bursts : List CapturedBurst) (written : List ℕ)
    → HasTaken settings capture_map bursts written old → HasTaken settings capture_map (bursts ++ burst ∷ []) written new

abbrev pub TakesRecord : Joining → CaptureParts → Joining → Type 0
TakesRecord old one new =
    (settings : CaptureSettings) (capture_map : CaptureMap) (records : List CaptureParts) (written : List ℕ)
    → HasJoined settings capture_map records written old → HasJoined settings capture_map (records ++ one ∷ []) written new

-- whatever came, nothing more comes, and what waited was handed in
abbrev pub EndsJoining : Joining → Joining → Type 0
EndsJoining old new =
    (settings : CaptureSettings) (capture_map : CaptureMap) (bursts : List CapturedBurst) (written : List ℕ)
    → HasTaken settings capture_map bursts written old → HasEnded settings capture_map bursts written new

-- and the receiver was closed
abbrev pub ClosesJoining : Joining → FrameFile → Type 0
ClosesJoining old file =
    (settings : CaptureSettings) (capture_map : CaptureMap) (bursts : List CapturedBurst) (written : List ℕ)
    → HasEnded settings capture_map bursts written old → AreAllFrames settings capture_map bursts (written ++ file.bytes.items)

-- whatever bytes were read, bytes from the front of the piece were read, and this is left
abbrev pub JoinsSome : FrameReading → List ℕ → List ℕ → FrameReading → Type 0
JoinsSome old piece rest new =
    (settings : CaptureSettings) (capture_map : CaptureMap) (bytes written : List ℕ) → HasReadBytes settings capture_map bytes written old
    → (used : List ℕ) × (piece ≡ used ++ rest) × HasReadBytes settings capture_map (bytes ++ used) written new

abbrev pub JoinsPiece : FrameReading → List ℕ → FrameReading → Type 0
JoinsPiece old piece new =
    (settings : CaptureSettings) (capture_map : CaptureMap) (bytes written : List ℕ) → HasReadBytes settings capture_map bytes written old
    → HasReadBytes settings capture_map (bytes ++ piece) written new

-- why no more of these bytes was joined, whatever follows
abbrev pub IsJoinFault : List ℕ → EngineFault → Type 0
IsJoinFault bytes (Capture fault) = (records : List CaptureParts) × HasCaptureFault records bytes fault.fault × (fault.records ≡ counted records)
IsJoinFault bytes OutOfMemory = Unit {0}
IsJoinFault bytes _ = ⊥

-- whatever bytes were read, they and the piece are at fault, and what is in the file is that of the
-- records before
abbrev pub CannotJoin : FrameReading → List ℕ → FrameReading → EngineFault → Type 0
CannotJoin old piece new fault =
    (settings : CaptureSettings) (capture_map : CaptureMap) (bytes written : List ℕ) → HasReadBytes settings capture_map bytes written old
    → IsFileTill settings capture_map (bytes ++ piece) fault (written ++ new.joining.file.bytes.items) × IsJoinFault (bytes ++ piece) fault

-- or the writer failed
abbrev pub IsJoinFaultOr : List ℕ → EngineFault → Type 0
IsJoinFaultOr bytes Write = Unit {0}
IsJoinFaultOr bytes fault = IsJoinFault bytes fault

-- the capture may not end here
abbrev pub EndsEarly : FrameReading → EngineFault → Type 0
EndsEarly reading (Capture fault) = ¬ IsWholeCapture reading.reader × (fault.records ≡ reading.joining.records)
EndsEarly reading OutOfMemory = Unit {0}
EndsEarly reading _ = ⊥

module _ {W : Type 0} (contents : W → Option (List ℕ)) where
  -- where this fault came, this text was written or, where the writer failed, a front of it
  abbrev pub WritesTill : Device W → Device W → List ℕ → EngineFault → Type 0
  WritesTill writer writer' text Write = AppendsFront (contents (inner_of writer)) (contents (inner_of writer')) text × (has_failed writer' ≡ true)
  WritesTill writer writer' text _ =
      Appends (contents (inner_of writer)) (contents (inner_of writer')) text × IsLeftFlushed writer writer' × (has_failed writer' ≡ has_failed writer)

  -- whatever bytes were read, the piece was read besides, and what is in the file was written
  abbrev pub JoinsWritten : FrameReading → Device W → List ℕ → FrameReading → Device W → Result (Unit {0}) EngineFault → Type 0
  JoinsWritten old writer piece new writer' result =
      (settings : CaptureSettings) (capture_map : CaptureMap) (bytes written : List ℕ) → HasReadBytes settings capture_map bytes written old
      → (more : List ℕ)
      × MatchResult result
      (λ _. HasReadBytes settings capture_map (bytes ++ piece) (written ++ more) new
      × Appends (contents (inner_of writer)) (contents (inner_of writer')) more × IsLeftFlushed writer writer' × (has_failed writer' ≡ has_failed writer))
      (λ fault. IsFileTill settings capture_map (bytes ++ piece) fault (written ++ more) × IsJoinFaultOr (bytes ++ piece) fault × WritesTill writer writer' more fault)

  -- what was written, with a fault or without: a text, by the fault a front of it
  abbrev pub WritesAll : Device W → Device W → List ℕ → Type 0
  WritesAll writer writer' text =
      Appends (contents (inner_of writer)) (contents (inner_of writer')) text × IsLeftFlushed writer writer' × (has_failed writer' ≡ has_failed writer)

  abbrev pub WritesSome : Device W → Device W → List ℕ → Type 0
  WritesSome writer writer' text = AppendsFront (contents (inner_of writer)) (contents (inner_of writer')) text × (has_failed writer' ≡ true)

  module _ (settings : CaptureSettings) (capture_map : CaptureMap) where
    -- where the receiver wasn't closed, or what it gave not written
    abbrev pub ClosesBy : List CapturedBurst → List ℕ → Device W → Device W → EngineFault → Type 0
    ClosesBy bursts written writer writer' OutOfMemory = (more : List ℕ) × AreFramesAtEnd settings capture_map bursts (written ++ more) × WritesAll writer writer' more
    ClosesBy bursts written writer writer' Write =
        (more : List ℕ) × (AreAllFrames settings capture_map bursts (written ++ more) ⊎ AreFramesAtEnd settings capture_map bursts (written ++ more))
        × WritesSome writer writer' more
    ClosesBy bursts written writer writer' _ = ⊥

    -- so where what waited wasn't handed in
    abbrev pub EndsBursts : List CapturedBurst → List ℕ → Device W → Device W → EngineFault → Type 0
    EndsBursts bursts written writer writer' OutOfMemory =
        (more : List ℕ) × (AreFramesSoFar settings capture_map bursts (written ++ more) ⊎ AreFramesAtEnd settings capture_map bursts (written ++ more))
        × WritesAll writer writer' more
    EndsBursts bursts written writer writer' Write =
        (more : List ℕ) × (AreAllFrames settings capture_map bursts (written ++ more) ⊎ AreFramesAtEnd settings capture_map bursts (written ++ more))
        × WritesSome writer writer' more
    EndsBursts bursts written writer writer' _ = ⊥

    -- all frames are written
    abbrev pub WritesAllFrames : List CapturedBurst → List ℕ → Device W → Device W → Type 0
    WritesAllFrames bursts written writer writer' = (more : List ℕ) × AreAllFrames settings capture_map bursts (written ++ more) × WritesAll writer writer' more

    -- by a fault at the end more of the file was written, or a front of it
    abbrev pub EndsBy : List ℕ → List ℕ → FrameReading → Device W → Device W → EngineFault → Type 0
    EndsBy bytes written reading writer writer' Write =
        (more : List ℕ)
        × (IsJoinedFile settings capture_map bytes (written ++ more) ⊎ IsJoinedTill settings capture_map bytes Write (written ++ more))
        × WritesSome writer writer' more
    EndsBy bytes written reading writer writer' fault =
        (more : List ℕ) × IsJoinedTill settings capture_map bytes fault (written ++ more) × EndsEarly reading fault × WritesAll writer writer' more

  -- whatever bursts came, the receiver was closed, and what that gave was written
  abbrev pub ClosesWritten : Joining → Device W → Device W → Result (Unit {0}) EngineFault → Type 0
  ClosesWritten joining writer writer' result =
      (settings : CaptureSettings) (capture_map : CaptureMap) (bursts : List CapturedBurst) (written : List ℕ) → HasEnded settings capture_map bursts written joining
      → MatchResult result (λ _. WritesAllFrames settings capture_map bursts written writer writer') (λ fault. ClosesBy settings capture_map bursts written writer writer' fault)

  -- so with what waited
  abbrev pub FinishesBursts : Joining → Device W → Device W → Result (Unit {0}) EngineFault → Type 0
  FinishesBursts joining writer writer' result =
      (settings : CaptureSettings) (capture_map : CaptureMap) (bursts : List CapturedBurst) (written : List ℕ) → HasTaken settings capture_map bursts written joining
      → MatchResult result (λ _. WritesAllFrames settings capture_map bursts written writer writer') (λ fault. EndsBursts settings capture_map bursts written writer writer' fault)

  -- whatever bytes were read, all of it was read, and the rest of the file was written
  abbrev pub FinishesJoined : FrameReading → Device W → Device W → Result (Unit {0}) EngineFault → Type 0
  FinishesJoined reading writer writer' result =
      (settings : CaptureSettings) (capture_map : CaptureMap) (bytes written : List ℕ) → HasReadBytes settings capture_map bytes written reading
      → MatchResult result
      (λ _. (more : List ℕ) × IsJoinedFile settings capture_map bytes (written ++ more) × WritesAll writer writer' more)
      (λ fault. EndsBy settings capture_map bytes written reading writer writer' fault)
