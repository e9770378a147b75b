-- How far the reading of a capture is, and what was told of it.
use Rattle.std.specs.Prelude.{◌≡◌, ◌≤◌, ◌-◌, ◌^◌, ◌⊎◌, min, ℕ, Bool, true, false, Option, Some, None, List, [], ◌∷◌, ◌++◌, length, slice_get}
use Rattle.std.specs.Io.KnownBytes.{Consumes}
use Rattle.flow_records.specs.declared.record.FlowRecord.{FlowRecord}
use Rattle.flow_core.specs.Counts.{no_counts}
use Rattle.flow_core.specs.declared.counts.FlowCounts.{FlowCounts}
use Rattle.consumer.specs.declared.given.Given.{Given}
use Rattle.bonded_flows.specs.Table.{TableSetup}
use Rattle.receiver.specs.HandedIn.{HandedIn}
use Rattle.receiver.specs.Receiving.{IsSettledAt, HasGivenSince}
use Rattle.flow_selection.specs.Selection.{is_selected}
use Rattle.selected_receiver.specs.Whole.{StandsForWhole}
use Rattle.capture_map.specs.declared.map.CaptureMap.{CaptureMap}
use Rattle.capture_summary.specs.Counting.{both_counts}
use Rattle.capture_summary.specs.declared.flow_summary.FlowSummary.{FlowSummary}
use Rattle.engines.specs.declared.device.Device.{Device}
use Rattle.engines.specs.Device.{inner_of}
use Rattle.frame_engine.specs.declared.settings.CaptureSettings.{CaptureSettings}
use Rattle.frame_engine.specs.declared.frame_reading.FrameReading.{FrameReading}
use Rattle.frame_engine.specs.declared.progress.CaptureProgress.{CaptureProgress}
use Rattle.frame_engine.specs.Settings.{inner_accepts}
use Rattle.frame_engine.specs.Records.{counted}
use Rattle.frame_engine.specs.Inside.Joins.{HasReadBytes}

-- whatever was told, nothing was told besides
abbrev pub KeepsTold : {P : Type 0} → (P → List CaptureProgress → P → Type 0) → P → P → Type 0
KeepsTold {P} after old new = (start : P) (told : List CaptureProgress) → after start told old → after start told new

-- whatever was told, this was told besides, or it was passed over
abbrev pub TakesProgress : {P : Type 0} → (P → List CaptureProgress → P → Type 0) → P → CaptureProgress → P → Type 0
TakesProgress {P} after old progress new =
    (start : P) (told : List CaptureProgress) → after start told old → after start told new ⊎ after start (told ++ progress ∷ []) new

-- the counts of a flow, with those of its time since it last began
abbrev pub with_since : FlowCounts → Option FlowCounts → FlowCounts
with_since counts None = counts
with_since counts (Some since) = both_counts counts since

module _ (reading : FrameReading) where
  -- what was counted of a flow of the receiver since it last began, if there is such a flow and it is
  -- selected
  abbrev pub IsCountedSince : ℕ → Option FlowCounts → Type 0
  IsCountedSince flow None = length reading.joining.flows.receiver.receiver.flows.slots.items ≤ flow
  IsCountedSince flow (Some since) =
      (check : List ℕ → Bool) (made : TableSetup) (handed : List HandedIn) (given : List Given) (flow_record : FlowRecord)
      → StandsForWhole inner_accepts reading.joining.flows.receiver check made handed given → slice_get made.records flow ≡ Some flow_record
      → IsSettledAt reading.joining.flows.receiver.receiver flow → is_selected reading.joining.flows.receiver.selected flow ≡ true → HasGivenSince check made flow flow_record handed given since

  -- **what was counted of the flows that are joined, together**, of each what its summary has, which is
  -- what was counted until it began anew, and what was counted since
  pub data AreCounted : List FlowSummary → FlowCounts → Type 0 where
    no_flows : AreCounted [] no_counts
    passed_over : {flows : List FlowSummary} {counts : FlowCounts} (one : FlowSummary) → AreCounted flows counts
        → is_selected reading.joining.flows.receiver.selected (length flows) ≡ false → AreCounted (flows ++ one ∷ []) counts
    one_flow : {flows : List FlowSummary} {counts : FlowCounts} (one : FlowSummary) (since : Option FlowCounts) → AreCounted flows counts
        → is_selected reading.joining.flows.receiver.selected (length flows) ≡ true → IsCountedSince (length flows) since → AreCounted (flows ++ one ∷ []) (with_since (both_counts counts one.counts) since)

  -- **This is how far the reading is**, by these summaries of the flows, where so many bytes were
  -- read.
  pub record IsProgressOf (flows : List FlowSummary) (bytes : ℕ) (progress : CaptureProgress) : Type 0 where
    pub bytes_are : progress.bytes ≡ bytes
    pub records_are : progress.records ≡ reading.joining.records
    pub counts : FlowCounts
    pub are_counted : AreCounted flows counts
    pub frames_are : progress.frames ≡ counts.frames
    pub lost_are : progress.lost ≡ counts.lost

  -- whatever was told, this was told besides, or nothing
  abbrev pub TellsProgress : {P : Type 0} → (P → List CaptureProgress → P → Type 0) → List FlowSummary → ℕ → P → P → Type 0
  TellsProgress {P} after flows bytes old new =
      (start : P) (told : List CaptureProgress) → after start told old
      → after start told new ⊎ ((progress : CaptureProgress) × IsProgressOf flows bytes progress × after start (told ++ progress ∷ []) new)

module _ (settings : CaptureSettings) (capture_map : CaptureMap) where
  -- **This is how far the reading is where just these bytes were read**: how many they are, how
  -- many records they have, and what a reading that stands for them counts of its flows.
  pub record IsProgressAt (bytes : List ℕ) (progress : CaptureProgress) : Type 0 where
    pub reading : FrameReading
    pub written : List ℕ
    pub has : HasReadBytes settings capture_map bytes written reading
    pub flows : List FlowSummary
    pub is : IsProgressOf reading flows (min (length bytes) (2 ^ 64 - 1)) progress
    pub records_are : progress.records ≡ counted has.records

  -- **These were told while these bytes were read**, each at a front of them, in order.
  pub data AreProgressOf : List ℕ → List CaptureProgress → Type 0 where
    none_told : AreProgressOf [] []
    read_on : {bytes : List ℕ} {told : List CaptureProgress} (more : List ℕ) → AreProgressOf bytes told → AreProgressOf (bytes ++ more) told
    one_told : {bytes : List ℕ} {told : List CaptureProgress} (progress : CaptureProgress) → AreProgressOf bytes told → IsProgressAt bytes progress
        → AreProgressOf bytes (told ++ progress ∷ [])

  -- **What was told was told while the bytes were read that a reader gave**
  pub record HasToldProgress {R P : Type 0} (remaining : R → Option (List ℕ)) (after : P → List CaptureProgress → P → Type 0)
      (reader reader' : Device R) (start end : P) : Type 0 where
    pub bytes : List ℕ
    pub read : Consumes (remaining (inner_of reader)) (remaining (inner_of reader')) bytes
    pub told : List CaptureProgress
    pub are : AreProgressOf bytes told
    pub came : after start told end
