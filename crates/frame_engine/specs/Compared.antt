-- The frames of a capture beside those that its analyser joined itself.
use Rattle.std.specs.Prelude.{◌≡◌, ◌≢◌, ℕ, ◌==◌, min, Option, Some, None, List, [], ◌∷◌, ◌++◌, flat_map, if◌then◌else◌}
use Rattle.capture.specs.PcapngBlocks.{CaptureParts}
use Rattle.capture_map.specs.declared.map.CaptureMap.{CaptureMap}
use Rattle.captured_flows.specs.Sids.{flow_in_map}
use Rattle.flow_selection.specs.declared.selection.Selection.{Selection}
use Rattle.flow_selection.specs.Selection.{is_selected}
use Rattle.frame_comparison.specs.declared.side.Side.{Side}
use Rattle.frame_comparison.specs.declared.side.Side.TheVariants.{Analyser, Here}
use Rattle.frame_comparison.specs.Frames.{CameFrame, came}
use Rattle.frame_comparison.specs.Aligned.{Arrival}
use Rattle.frame_records.specs.Recorded.{FrameParts, HoldsFrame}
use Rattle.frame_records.specs.BurstIds.{AreFirstBursts}
use Rattle.timed_frames.specs.declared.timed_step.TimedStep.{TimedStep}
use Rattle.timed_frames.specs.declared.timed_step.TimedStep.TheVariants.{HandedIn, Frame, Asked, Replied, Ended}
use Rattle.frame_engine.specs.Records.{greatest_sid}

-- a frame of one side comes to be compared if its flow is selected
abbrev pub arrivals_if : Selection → Side → ℕ → CameFrame → List Arrival
arrivals_if selected side flow frame = if is_selected selected flow then record { side = side; flow = flow; frame = frame } ∷ [] else []

-- of steps the frames come, ours, each at the time of the burst that completed it
abbrev pub arrivals_of_step : Selection → TimedStep → List Arrival
arrivals_of_step selected (HandedIn flow burst) = []
arrivals_of_step selected (Frame flow burst frame) = arrivals_if selected Here flow (came burst.time frame [])
arrivals_of_step selected (Asked burst request) = []
arrivals_of_step selected (Replied flow burst_id reply) = []
arrivals_of_step selected (Ended flow counts) = []

abbrev pub arrivals_of_steps : Selection → List TimedStep → List Arrival
arrivals_of_steps selected steps = flat_map (arrivals_of_step selected) steps

-- the flow of a frame that the analyser joined, if the map has its channel and its SID
abbrev pub flow_of_joined : CaptureMap → FrameParts → Option ℕ
flow_of_joined capture_map frame = flow_in_map capture_map frame.channel (min frame.sid greatest_sid)

abbrev pub arrivals_of_flow : Option ℕ → Selection → FrameParts → List ℕ → List Arrival
arrivals_of_flow None selected frame ids = []
arrivals_of_flow (Some flow) selected frame ids = arrivals_if selected Analyser flow (came frame.time frame.frame ids)

module _ (selected : Selection) (capture_map : CaptureMap) where
  abbrev pub arrivals_of_joined : FrameParts → List ℕ → List Arrival
  arrivals_of_joined frame ids = arrivals_of_flow (flow_of_joined capture_map frame) selected frame ids

  -- **What comes of a record to be compared**: the frame that the analyser joined, if it holds one,
  -- with the first of the bursts that it came from
  pub data Brings (one : CaptureParts) : List Arrival → Type 0 where
    a_frame : (frame : FrameParts) (ids : List ℕ) → HoldsFrame one frame → AreFirstBursts one ids → Brings one (arrivals_of_joined frame ids)
    no_frame : ((frame : FrameParts) → HoldsFrame one frame → ⊥) → Brings one []

  -- **What comes of these records and of these steps to be compared**, of both in their order
  pub data AreArrivals : List CaptureParts → List TimedStep → List Arrival → Type 0 where
    nothing_yet : AreArrivals [] [] []
    one_record : {records : List CaptureParts} {timed : List TimedStep} {before : List Arrival} → AreArrivals records timed before
        → (one : CaptureParts) (more : List Arrival) → Brings one more → AreArrivals (records ++ one ∷ []) timed (before ++ more)
    more_steps : {records : List CaptureParts} {timed : List TimedStep} {before : List Arrival} → AreArrivals records timed before
        → (more : List TimedStep) → AreArrivals records (timed ++ more) (before ++ arrivals_of_steps selected more)

-- the frames of a flow that are joined in steps
abbrev pub frames_in_step : ℕ → TimedStep → List (List ℕ)
frames_in_step k (HandedIn flow burst) = []
frames_in_step k (Frame flow burst frame) = if flow == k then frame ∷ [] else []
frames_in_step k (Asked burst request) = []
frames_in_step k (Replied flow burst_id reply) = []
frames_in_step k (Ended flow counts) = []

abbrev pub frames_in : ℕ → List TimedStep → List (List ℕ)
frames_in k timed = flat_map (frames_in_step k) timed

-- **these are the frames of flow k that the analyser joined**, in the order of the records that
-- hold them
pub data AreTheAnalysers (capture_map : CaptureMap) (k : ℕ) : List CaptureParts → List (List ℕ) → Type 0 where
  no_record : AreTheAnalysers capture_map k [] []
  of_the_flow : {records : List CaptureParts} {frames : List (List ℕ)} → AreTheAnalysers capture_map k records frames → (one : CaptureParts) (frame : FrameParts) → HoldsFrame one frame
      → flow_of_joined capture_map frame ≡ Some k → AreTheAnalysers capture_map k (records ++ one ∷ []) (frames ++ frame.frame ∷ [])
  of_another : {records : List CaptureParts} {frames : List (List ℕ)} → AreTheAnalysers capture_map k records frames → (one : CaptureParts) (frame : FrameParts) → HoldsFrame one frame
      → flow_of_joined capture_map frame ≢ Some k → AreTheAnalysers capture_map k (records ++ one ∷ []) frames
  of_none : {records : List CaptureParts} {frames : List (List ℕ)} → AreTheAnalysers capture_map k records frames → (one : CaptureParts)
      → ((frame : FrameParts) → HoldsFrame one frame → ⊥) → AreTheAnalysers capture_map k (records ++ one ∷ []) frames
