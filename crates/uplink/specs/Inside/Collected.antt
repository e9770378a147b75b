-- The outcome of a run that collected what it gave.
use Rattle.std.specs.Prelude.{◌≡◌, ℕ, IsTrue, Option, Some, List, IfSome, Vec, length, slice_get}
use Rattle.std.specs.declared.alloc.Global.{Global}
use Rattle.docsis_wire.specs.declared.buffer.Bytes.{Bytes}
use Rattle.flow_core.specs.declared.counts.FlowCounts.{FlowCounts}
use Rattle.flow_records.specs.declared.record.FlowRecord.{FlowRecord}
use Rattle.lane.specs.Limits.{channel_limit}
use Rattle.lane.specs.declared.report.LaneReport.{LaneReport}
use Rattle.consumer.specs.declared.collected.Collected.{Collected}
use Rattle.receiver.specs.declared.outcome.FlowOutcome.{FlowOutcome}
use Rattle.receiver.specs.declared.outcome.Outcome.{Outcome}
use Rattle.uplink.specs.declared.finish.Concluded.{Concluded}
use Rattle.uplink.specs.Inside.Running.{HaveNotes, notes_on}

-- what each flow gave: these frames and these counts, by the flow's index
pub record AreFlowsOf (records : List FlowRecord) (frames : List (Vec Bytes Global)) (counts : List FlowCounts) (flows : List FlowOutcome) : Type 0 where
  pub count : length flows ≡ length records
  pub each : (k : ℕ) (flow : FlowOutcome) (flow_record : FlowRecord) (given : Vec Bytes Global) (counted : FlowCounts) → slice_get flows k ≡ Some flow
      → slice_get records k ≡ Some flow_record → slice_get frames k ≡ Some given → slice_get counts k ≡ Some counted
      → (flow.sfid ≡ flow_record.sfid) × (flow.frames ≡ given) × (flow.counts ≡ counted)

-- there is a list for each of so many flows and of the channels, if all was kept, and there are as
-- many counts
pub record CanBeMade (flow_count : ℕ) (frames requests : Collected) (concluded : Option (Concluded LaneReport)) : Type 0 where
  pub frame_lists : IsTrue frames.whole → length frames.frames.items ≡ flow_count
  pub request_lists : IsTrue requests.whole → length requests.requests.items ≡ channel_limit
  pub counts : IfSome concluded (λ all. length all.counts.items ≡ flow_count)
  pub notes : IfSome concluded (λ all. HaveNotes channel_limit all.lanes)

-- an outcome of all that was kept and concluded
pub record IsMadeOf (records : List FlowRecord) (frames requests : Collected) (o : Option (Concluded LaneReport)) (outcome : Outcome) : Type 0 where
  pub concluded : Concluded LaneReport
  pub was : o ≡ Some concluded
  pub order_is : concluded.order ≡ Some outcome.order
  pub frames_whole : IsTrue frames.whole
  pub requests_whole : IsTrue requests.whole
  pub flows : AreFlowsOf records frames.frames.items concluded.counts.items outcome.flows.items
  pub requests_are : outcome.requests ≡ requests.requests.items
  pub lanes_are : (channel : ℕ) (report : LaneReport) → slice_get outcome.lanes channel ≡ Some report → notes_on concluded.lanes channel ≡ Some report
  pub lane_count : length outcome.lanes ≡ channel_limit
