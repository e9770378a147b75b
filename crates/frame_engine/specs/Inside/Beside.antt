-- How far the frames of a capture were compared, beside how far it was joined.
use Rattle.std.specs.Prelude.{◌≡◌, ℕ, Option, List, ◌∷◌, [], ◌++◌, Ok}
use Rattle.capture.specs.PcapngBlocks.{CaptureParts}
use Rattle.capture_map.specs.declared.map.CaptureMap.{CaptureMap}
use Rattle.captured_flows.specs.declared.captured_burst.CapturedBurst.{CapturedBurst}
use Rattle.engines.specs.declared.device.Device.{Device}
use Rattle.frame_engine.specs.declared.settings.CaptureSettings.{CaptureSettings}
use Rattle.frame_engine.specs.declared.comparing.Comparing.{Comparing}
use Rattle.frame_engine.specs.declared.frame_file.FrameFile.{FrameFile}
use Rattle.frame_engine.specs.declared.joining.Joining.{Joining}
use Rattle.frame_engine.specs.declared.frame_reading.FrameReading.{FrameReading}
use Rattle.frame_engine.specs.Comparing.{Compares, IsComparedFile}
use Rattle.frame_engine.specs.Joined.{AreAllFrames}
use Rattle.frame_engine.specs.Reasoned.{answers_in}
use Rattle.frame_engine.specs.Records.{IsBurstOf}
use Rattle.frame_engine.specs.Inside.Joins.{HasTaken, HasEnded, HasJoined, HasReadBytes, WritesAll}

module _ (settings : CaptureSettings) (capture_map : CaptureMap) where
  -- these bursts came, and what came of them was compared with these records
  pub record HasTakenBeside (records : List CaptureParts) (bursts : List CapturedBurst) (written : List ℕ) (joining : Joining) (comparing : Comparing) : Type 0 where
    pub taken : HasTaken settings capture_map bursts written joining
    pub compares : Compares settings capture_map records bursts (answers_in taken.comes.spelled) taken.filed.came comparing

  pub record HasEndedBeside (records : List CaptureParts) (bursts : List CapturedBurst) (written : List ℕ) (joining : Joining) (comparing : Comparing) : Type 0 where
    pub ended : HasEnded settings capture_map bursts written joining
    pub compares : Compares settings capture_map records bursts (answers_in ended.comes.came.spelled) ended.filed.came comparing

  pub record HasJoinedBeside (records : List CaptureParts) (written : List ℕ) (joining : Joining) (comparing : Comparing) : Type 0 where
    pub joined : HasJoined settings capture_map records written joining
    pub compares : Compares settings capture_map records joined.bursts (answers_in joined.taken_in.comes.spelled) joined.taken_in.filed.came comparing

  pub record HasReadBeside (bytes written : List ℕ) (reading : FrameReading) (comparing : Comparing) : Type 0 where
    pub read : HasReadBytes settings capture_map bytes written reading
    pub compares :
        Compares settings capture_map read.records read.joined.bursts (answers_in read.joined.taken_in.comes.spelled) read.joined.taken_in.filed.came comparing

  -- the receiver was closed, and all that it gave was compared with these records
  pub record AreAllBeside (records : List CaptureParts) (bursts : List CapturedBurst) (text : List ℕ) (comparing : Comparing) : Type 0 where
    pub all : AreAllFrames settings capture_map bursts text
    pub compares : Compares settings capture_map records bursts (answers_in all.comes.came.spelled) all.file.timed comparing

-- whatever came, and last the record that holds this burst, it came besides
abbrev pub TakesBurstBeside : Joining → Comparing → CapturedBurst → Joining → Comparing → Type 0
TakesBurstBeside old comparing burst new comparing' =
    (settings : CaptureSettings) (capture_map : CaptureMap) (records : List CaptureParts) (one : CaptureParts) (bursts : List CapturedBurst) (written : List ℕ)
    → IsBurstOf one (Ok burst) → HasTakenBeside settings capture_map (records ++ one ∷ []) bursts written old comparing
    → HasTakenBeside settings capture_map (records ++ one ∷ []) (bursts ++ burst ∷ []) written new comparing'

-- whatever came, this came besides
abbrev pub TakesRecordBeside : Joining → Comparing → CaptureParts → Joining → Comparing → Type 0
TakesRecordBeside old comparing one new comparing' =
    (settings : CaptureSettings) (capture_map : CaptureMap) (records : List CaptureParts) (written : List ℕ)
    → HasJoinedBeside settings capture_map records written old comparing → HasJoinedBeside settings capture_map (records ++ one ∷ []) written new comparing'

-- whatever came, nothing more comes, and what waited was handed in
abbrev pub EndsBeside : Joining → Comparing → Joining → Comparing → Type 0
EndsBeside old comparing new comparing' =
    (settings : CaptureSettings) (capture_map : CaptureMap) (records : List CaptureParts) (bursts : List CapturedBurst) (written : List ℕ)
    → HasTakenBeside settings capture_map records bursts written old comparing → HasEndedBeside settings capture_map records bursts written new comparing'

-- and the receiver was closed
abbrev pub ClosesBeside : Joining → Comparing → FrameFile → Comparing → Type 0
ClosesBeside old comparing file comparing' =
    (settings : CaptureSettings) (capture_map : CaptureMap) (records : List CaptureParts) (bursts : List CapturedBurst) (written : List ℕ)
    → HasEndedBeside settings capture_map records bursts written old comparing
    → AreAllBeside settings capture_map records bursts (written ++ file.bytes.items) comparing'

-- whatever bytes were read, bytes from the front of the piece were read, and this is left
abbrev pub JoinsSomeBeside : FrameReading → Comparing → List ℕ → List ℕ → FrameReading → Comparing → Type 0
JoinsSomeBeside old comparing piece rest new comparing' =
    (settings : CaptureSettings) (capture_map : CaptureMap) (bytes written : List ℕ) → HasReadBeside settings capture_map bytes written old comparing
    → (used : List ℕ) × (piece ≡ used ++ rest) × HasReadBeside settings capture_map (bytes ++ used) written new comparing'

abbrev pub JoinsPieceBeside : FrameReading → Comparing → List ℕ → FrameReading → Comparing → Type 0
JoinsPieceBeside old comparing piece new comparing' =
    (settings : CaptureSettings) (capture_map : CaptureMap) (bytes written : List ℕ) → HasReadBeside settings capture_map bytes written old comparing
    → HasReadBeside settings capture_map (bytes ++ piece) written new comparing'

module _ {W : Type 0} (contents : W → Option (List ℕ)) where
  -- whatever bytes were read, the piece was read besides, and what is in the file was written
  abbrev pub JoinsWrittenBeside : FrameReading → Comparing → Device W → List ℕ → FrameReading → Comparing → Device W → Type 0
  JoinsWrittenBeside old comparing writer piece new comparing' writer' =
      (settings : CaptureSettings) (capture_map : CaptureMap) (bytes written : List ℕ) → HasReadBeside settings capture_map bytes written old comparing
      → (more : List ℕ) × HasReadBeside settings capture_map (bytes ++ piece) (written ++ more) new comparing' × WritesAll contents writer writer' more

  -- whatever bursts came, the receiver was closed, and what that gave was written
  abbrev pub ClosesWrittenBeside : Joining → Comparing → Device W → Comparing → Device W → Type 0
  ClosesWrittenBeside joining comparing writer comparing' writer' =
      (settings : CaptureSettings) (capture_map : CaptureMap) (records : List CaptureParts) (bursts : List CapturedBurst) (written : List ℕ)
      → HasEndedBeside settings capture_map records bursts written joining comparing
      → (more : List ℕ) × AreAllBeside settings capture_map records bursts (written ++ more) comparing' × WritesAll contents writer writer' more

  -- so with what waited
  abbrev pub FinishesBurstsBeside : Joining → Comparing → Device W → Comparing → Device W → Type 0
  FinishesBurstsBeside joining comparing writer comparing' writer' =
      (settings : CaptureSettings) (capture_map : CaptureMap) (records : List CaptureParts) (bursts : List CapturedBurst) (written : List ℕ)
      → HasTakenBeside settings capture_map records bursts written joining comparing
      → (more : List ℕ) × AreAllBeside settings capture_map records bursts (written ++ more) comparing' × WritesAll contents writer writer' more

  -- whatever bytes were read, all of it was read, and the rest of the file was written
  abbrev pub FinishesBeside : FrameReading → Comparing → Device W → Comparing → Device W → Type 0
  FinishesBeside reading comparing writer comparing' writer' =
      (settings : CaptureSettings) (capture_map : CaptureMap) (bytes written : List ℕ) → HasReadBeside settings capture_map bytes written reading comparing
      → (more : List ℕ) × IsComparedFile settings capture_map comparing' bytes (written ++ more) × WritesAll contents writer writer' more
