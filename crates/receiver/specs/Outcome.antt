-- The one-thread answer: what a receiver gives, by the definitions alone, for the inputs of four
-- channels, the decisions and an order.
use Rattle.std.specs.Prelude.{◌≡◌, ℕ, ◌<◌, Bool, Some, List, [], ◌++◌, map, length, replicate, slice_get, slice_index_or}
use Rattle.flow_records.specs.declared.record.FlowRecord.{FlowRecord}
use Rattle.flow_records.specs.declared.event.Event.{Event}
use Rattle.flow_core.specs.declared.counts.FlowCounts.{FlowCounts}
use Rattle.flow_core.specs.Events.{FlowEvent, gap}
use Rattle.flow_core.specs.Outcome.{IsFlowOutcome}
use Rattle.flow_core.specs.Closing.{IsClosed}
use Rattle.lane.specs.declared.admitted.Request.{Request}
use Rattle.lane.specs.declared.report.LaneReport.{LaneReport}
use Rattle.lane.specs.Limits.{channel_limit}
use Rattle.lane.specs.Report.{requests_of, IsReportOf}
use Rattle.receiver.specs.declared.outcome.FlowOutcome.{FlowOutcome}
use Rattle.receiver.specs.declared.outcome.Outcome.{Outcome}
use Rattle.receiver.specs.declared.setup.Setup.{Setup}
use Rattle.receiver.specs.Items.{Incoming, events_at}
use Rattle.receiver.specs.Intake.{IsIntake}

-- What a flow with this record gives after these events and its close: as many gaps as still change
-- anything.
pub record GivesAtItsClose (check : List ℕ → Bool) (flow_record : FlowRecord) (events : List FlowEvent) (frames : List (List ℕ)) (counts : FlowCounts) : Type 0 where
  pub n : ℕ
  pub outcome : IsFlowOutcome check flow_record (events ++ replicate n gap) frames counts
  pub closed : IsClosed outcome.fates

-- what a flow gave: the frames and counts of its events and its close
pub record IsOutcomeOfFlow (check : List ℕ → Bool) (flow_record : FlowRecord) (events : List FlowEvent) (flow : FlowOutcome) : Type 0 where
  pub sfid : flow.sfid ≡ flow_record.sfid
  pub gives : GivesAtItsClose check flow_record events flow.frames.items flow.counts

-- each flow gave what its events among these items make it give
pub record AreOutcomesOfFlows (check : List ℕ → Bool) (records : List FlowRecord) (items : List Event) (flows : List FlowOutcome) : Type 0 where
  pub count : length flows ≡ length records
  pub each : (k : ℕ) (flow_record : FlowRecord) → slice_get records k ≡ Some flow_record
      → (flow : FlowOutcome) × (slice_get flows k ≡ Some flow) × IsOutcomeOfFlow check flow_record (events_at k items) flow

-- the requests that came on this channel
abbrev pub requests_on : Outcome → ℕ → List Request
requests_on outcome channel = slice_index_or (map (λ requests. requests.items) outcome.requests) channel []

-- The one-thread answer for what comes in, in this order: each flow takes its events among the
-- items of the intake and is closed. Requests and reports are those of the four lanes.
pub record IsOutcome (check : List ℕ → Bool) (setup : Setup) (incoming : Incoming) (order : List ℕ) (outcome : Outcome) : Type 0 where
  pub intake : IsIntake setup incoming order
  pub flows : AreOutcomesOfFlows check setup.flows.items intake.items outcome.flows.items
  pub request_lists : length outcome.requests ≡ channel_limit
  pub requests : (channel : ℕ) → channel < channel_limit → requests_on outcome channel ≡ requests_of (intake.answered channel)
  pub report_count : length outcome.lanes ≡ channel_limit
  pub reports : (channel : ℕ) (report : LaneReport) → channel < channel_limit → slice_get outcome.lanes channel ≡ Some report → IsReportOf (intake.answered channel) report
  pub order_is : outcome.order.items ≡ order
