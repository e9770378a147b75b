-- The frames of a capture with a map, and the file that they make.
use Rattle.std.specs.Prelude.{◌≡◌, ℕ, Bool, Option, None, List, [], ◌++◌, length, filter, map, replicate}
use Rattle.consumer.specs.declared.given.Given.{Given}
use Rattle.bonded_flows.specs.Table.{TableSetup}
use Rattle.receiver.specs.Received.{IsReceived}
use Rattle.receiver.specs.declared.closing.Closed.{Closed}
use Rattle.capture.specs.Pcap.{header_bytes}
use Rattle.capture.specs.PcapngBlocks.{CaptureParts}
use Rattle.capture.specs.Captures.{HasCaptured, IsWholeCapture}
use Rattle.capture.specs.declared.capture_reader.CaptureReader.{CaptureReader}
use Rattle.capture_map.specs.declared.map.CaptureMap.{CaptureMap}
use Rattle.captured_flows.specs.declared.captured_burst.CapturedBurst.{CapturedBurst}
use Rattle.captured_flows.specs.Acts.{Act, items_of}
use Rattle.captured_flows.specs.Flow.{FlowView}
use Rattle.captured_flows.specs.Together.{view_begun}
use Rattle.captured_flows.specs.Captures.{SpellsBursts, EndsAll, made_from}
use Rattle.captured_flows.specs.Shown.{is_seen}
use Rattle.captured_flows.specs.Steps.{CaptureStep, gave, given_in}
use Rattle.captured_flows.specs.Plays.{Plays}
use Rattle.flow_selection.specs.declared.selection.Selection.TheVariants.{All}
use Rattle.frame_records.specs.Frames.{file_header}
use Rattle.timed_frames.specs.declared.timed_step.LastBurst.{LastBurst}
use Rattle.timed_frames.specs.declared.timed_step.TimedStep.{TimedStep}
use Rattle.timed_frames.specs.Timed.{Timed}
use Rattle.frame_engine.specs.declared.settings.CaptureSettings.{CaptureSettings}
use Rattle.frame_engine.specs.Settings.{inner_accepts}
use Rattle.frame_engine.specs.Records.{AreBurstsOf}
use Rattle.frame_engine.specs.Written.{written_in, left_in}

-- the same settings, with all flows selected
abbrev pub of_all_flows : CaptureSettings → CaptureSettings
of_all_flows settings = record settings { selected = All }

module _ (settings : CaptureSettings) (capture_map : CaptureMap) where
  -- what the receiver is made with
  abbrev pub made : TableSetup
  made = made_from settings.rule capture_map

  -- which headers of frames pass
  abbrev pub check : List ℕ → Bool
  check = inner_accepts settings.check

  -- before anything came: of no flow a burst was handed in
  abbrev pub none_handed_in : List (Option LastBurst)
  none_handed_in = replicate (length capture_map.flows.items) None

  -- the file of all that came of some steps: a header, and what is written of that
  abbrev pub whole_file : List TimedStep → List ℕ
  whole_file timed = header_bytes (file_header settings.link) ++ written_in settings.link capture_map.channels.items timed

  -- the file of a part of that: a header, and what is written but the frames of flows that aren't
  -- selected
  abbrev pub file_of : List TimedStep → List ℕ
  file_of timed = header_bytes (file_header settings.link) ++ left_in settings.selected settings.link capture_map.channels.items timed

  -- **What comes of these bursts**, one after another: what is handed in to the receiver, how the
  -- flows of the map then stand, and what the receiver gives.
  pub record ComesOf (bursts : List CapturedBurst) (handed : List Act) (flows : List FlowView) (steps : List CaptureStep) : Type 0 where
    pub spelled : SpellsBursts capture_map made settings.waits.wait (map (view_begun settings.waits) capture_map.flows.items) [] bursts handed flows
    pub plays : Plays check made [] [] handed steps

  -- and what comes of it when nothing more comes: what waits is handed in, of one flow after
  -- another
  pub record ComesAtEnd (bursts : List CapturedBurst) (handed : List Act) (steps : List CaptureStep) : Type 0 where
    pub before : List Act
    pub flows : List FlowView
    pub earlier : List CaptureStep
    pub came : ComesOf bursts before flows earlier
    pub later : List Act
    pub flows' : List FlowView
    pub ends : EndsAll made settings.waits.wait flows before (length flows) later flows'
    pub handed_is : handed ≡ before ++ later
    pub plays : Plays check made [] [] handed steps

  -- what is seen of some steps: all but the frames and counts of flows that aren't selected
  abbrev pub steps_seen : List CaptureStep → List CaptureStep
  steps_seen steps = filter (is_seen settings.selected) steps

  -- **The file of the frames of the selected flows that come of some steps**, each with the burst
  -- of its flow that was handed in last.
  pub record IsFileOf (steps : List CaptureStep) (text : List ℕ) : Type 0 where
    pub timed : List TimedStep
    pub lasts : List (Option LastBurst)
    pub is_timed : Timed none_handed_in (steps_seen steps) timed lasts
    pub text_is : text ≡ whole_file timed

  -- so of these bursts, as far as they go
  pub record AreFramesSoFar (bursts : List CapturedBurst) (text : List ℕ) : Type 0 where
    pub handed : List Act
    pub flows : List FlowView
    pub steps : List CaptureStep
    pub comes : ComesOf bursts handed flows steps
    pub file : IsFileOf steps text

  -- when nothing more comes, before the receiver is closed
  pub record AreFramesAtEnd (bursts : List CapturedBurst) (text : List ℕ) : Type 0 where
    pub handed : List Act
    pub steps : List CaptureStep
    pub comes : ComesAtEnd bursts handed steps
    pub file : IsFileOf steps text

  -- **and all of them**: what was given when the receiver was closed is the answer for all that was
  -- handed in
  pub record AreAllFrames (bursts : List CapturedBurst) (text : List ℕ) : Type 0 where
    pub handed : List Act
    pub steps : List CaptureStep
    pub comes : ComesAtEnd bursts handed steps
    pub rest : List Given
    pub closed : Closed
    pub received : IsReceived check made (items_of handed) (given_in steps ++ rest) closed
    pub file : IsFileOf (steps ++ map gave rest) text

  -- so of the bursts among these records
  pub record IsJoinedBy (Are : List CapturedBurst → List ℕ → Type 0) (records : List CaptureParts) (text : List ℕ) : Type 0 where
    pub bursts : List CapturedBurst
    pub are : AreBurstsOf records bursts
    pub frames : Are bursts text

  abbrev pub IsJoinedSoFar : List CaptureParts → List ℕ → Type 0
  IsJoinedSoFar = IsJoinedBy AreFramesSoFar

  abbrev pub IsJoinedAtEnd : List CaptureParts → List ℕ → Type 0
  IsJoinedAtEnd = IsJoinedBy AreFramesAtEnd

  -- **The text is the file of the frames of the capture that these bytes are.**
  pub record IsJoinedFile (input text : List ℕ) : Type 0 where
    pub reader : CaptureReader
    pub records : List CaptureParts
    pub captured : HasCaptured reader records input
    pub whole : IsWholeCapture reader
    pub joined : IsJoinedBy AreAllFrames records text
