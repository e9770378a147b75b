-- What is kept of the frames that are compared.
use Rattle.std.specs.Prelude.{◌≡◌, ℕ, IsTrue, Option, Some, None, List, length}
use Rattle.burst_fates.specs.declared.burst_fate.ToldFate.{ToldFate}
use Rattle.burst_fates.specs.declared.missing_reason.MissingReason.{MissingReason}
use Rattle.capture.specs.PcapngBlocks.{CaptureParts}
use Rattle.capture_map.specs.declared.map.CaptureMap.{CaptureMap}
use Rattle.captured_flows.specs.declared.burst_taken.BurstTaken.{BurstTaken}
use Rattle.captured_flows.specs.declared.captured_burst.CapturedBurst.{CapturedBurst}
use Rattle.flow_selection.specs.declared.selection.Selection.{Selection}
use Rattle.frame_comparison.specs.Compared.{Comparison, nothing_came, finished}
use Rattle.frame_comparison.specs.Aligned.{Arrival, with_all}
use Rattle.frame_comparison.specs.Seen.{ComparisonSeen, seen_of}
use Rattle.timed_frames.specs.declared.timed_step.TimedStep.{TimedStep}
use Rattle.frame_engine.specs.declared.settings.CaptureSettings.{CaptureSettings}
use Rattle.frame_engine.specs.declared.comparing.Comparing.{Comparing}
use Rattle.frame_engine.specs.Compared.{Brings, AreArrivals}
use Rattle.frame_engine.specs.Explaining.{Knows}
use Rattle.frame_engine.specs.Joined.{IsJoinedFile}
use Rattle.frame_engine.specs.Reasoned.{answers_in, AreReasons}

-- as long as no allocation failed, it is what is kept of this comparison
abbrev pub IsKeptOf : Comparison → ComparisonSeen → Type 0
IsKeptOf comparison one = IsTrue one.is_whole → one ≡ seen_of comparison

-- so where frames are compared, and nothing is so where they aren't
abbrev pub IsKeptIn : Comparison → Option ComparisonSeen → Type 0
IsKeptIn comparison None = ⊥
IsKeptIn comparison (Some one) = IsKeptOf comparison one

abbrev pub IsComparing : Comparison → Comparing → Type 0
IsComparing comparison comparing = IsKeptIn comparison comparing.comparison

-- whatever was compared, this came to be compared besides
abbrev pub Takes : List Arrival → Comparing → Comparing → Type 0
Takes more old new = (before : Comparison) → IsComparing before old → IsComparing (with_all more before) new

-- so what comes of a record
abbrev pub TakesBrought : Selection → CaptureMap → CaptureParts → Comparing → Comparing → Type 0
TakesBrought selected capture_map one old new =
    (before : Comparison) → IsComparing before old → (more : List Arrival) × Brings selected capture_map one more × IsComparing (with_all more before) new

-- whatever was compared, nothing more comes
abbrev pub Finishes : Comparing → Comparing → Type 0
Finishes old new = (before : Comparison) → IsComparing before old → IsComparing (finished before) new

-- frames are compared, and no allocation failed
abbrev pub IsWholeIn : Option ComparisonSeen → Type 0
IsWholeIn None = ⊥
IsWholeIn (Some one) = IsTrue one.is_whole

module _ (settings : CaptureSettings) (capture_map : CaptureMap) where
  -- this was told of these bursts, which these answers were given, and these reasons are listed
  pub record ListsReasons (records : List CaptureParts) (bursts : List CapturedBurst) (answers : List BurstTaken) (timed : List TimedStep) (arrivals : List Arrival) (comparing : Comparing) : Type 0 where
    pub told : List ToldFate
    pub reasons : List MissingReason
    pub are : AreReasons settings capture_map records bursts answers timed arrivals told reasons
    pub knows : Knows told reasons comparing.reasons

  -- these records and what came of them were compared, and as long as no allocation failed, the
  -- reasons are those of what was told of the bursts
  pub record Compares (records : List CaptureParts) (bursts : List CapturedBurst) (answers : List BurstTaken) (timed : List TimedStep) (comparing : Comparing) : Type 0 where
    pub arrivals : List Arrival
    pub are : AreArrivals settings.selected capture_map records timed arrivals
    pub compared : IsComparing (with_all arrivals (nothing_came (length capture_map.flows.items))) comparing
    pub explained : IsWholeIn comparing.comparison → ListsReasons records bursts answers timed arrivals comparing

  -- **The text is the file of the frames of the capture that these bytes are, and its records were
  -- compared with just these frames**; the reasons that are listed are those of what became of the
  -- bursts of the records.
  pub record IsComparedFile (comparing : Comparing) (input text : List ℕ) : Type 0 where
    pub joined : IsJoinedFile settings capture_map input text
    pub compares :
        Compares joined.records joined.joined.bursts (answers_in joined.joined.frames.comes.came.spelled) joined.joined.frames.file.timed comparing
