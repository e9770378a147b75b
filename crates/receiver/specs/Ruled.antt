-- The one-thread answer where a receiver decides by a rule which segments are lost.
use Rattle.std.specs.Prelude.{◌≡◌, ℕ, ◌<◌, ◌==◌, Bool, Some, List, [], ◌∷◌, length, slice_get, if◌then◌else◌}
use Rattle.flow_records.specs.declared.record.FlowRecord.{FlowRecord}
use Rattle.flow_records.specs.declared.event.Event.{Event}
use Rattle.flow_records.specs.declared.event.Event.TheVariants.{Arrive, Gap, GapTo, SkipTo}
use Rattle.flow_core.specs.Fates.{Fates}
use Rattle.flow_core.specs.Events.{FlowEvent, gap, gap_to, skip_to}
use Rattle.flow_records.specs.Events.{flow_of}
use Rattle.lane.specs.declared.sids.SidRow.{SidRow}
use Rattle.lane.specs.declared.report.LaneReport.{LaneReport}
use Rattle.lane.specs.Limits.{channel_limit}
use Rattle.lane.specs.Report.{requests_of, IsReportOf}
use Rattle.loss_rule.specs.declared.rule.LossRule.{LossRule}
use Rattle.bonded_flows.specs.Channels.{channels_within}
use Rattle.loss_rule.specs.Rule.{Coming, on_channel, handed_in, RuledFlow, Lasts, AreRuled}
use Rattle.receiver.specs.declared.outcome.FlowOutcome.{FlowOutcome}
use Rattle.receiver.specs.declared.outcome.Outcome.{Outcome}
use Rattle.receiver.specs.declared.setup.Setup.{Setup}
use Rattle.receiver.specs.Items.{Incoming}
use Rattle.receiver.specs.Intake.{IsIntake}
use Rattle.receiver.specs.Outcome.{IsOutcomeOfFlow, requests_on}

-- of each channel, 0 to 3, whether it is the flow's
abbrev pub channels_of : List SidRow → ℕ → List Bool
channels_of rows flow = channels_within channel_limit rows flow

-- what the rule has to know of a flow
abbrev pub ruled_flow : List SidRow → ℕ → FlowRecord → RuledFlow
ruled_flow rows flow flow_record = record { first = flow_record.first; width = flow_record.window; channels = channels_of rows flow }

-- what an item of this sender is to its flow: a segment comes on the sender's channel
abbrev pub coming_of : ℕ → Event → Coming
coming_of sender (Arrive flow segment) = on_channel sender segment
coming_of sender (Gap flow) = handed_in gap
coming_of sender (GapTo flow number) = handed_in (gap_to number)
coming_of sender (SkipTo flow number) = handed_in (skip_to number)

-- what comes to flow k, of all items in an order that names the sender of each
abbrev pub comings_at : ℕ → List ℕ → List Event → List Coming
comings_at k [] items = []
comings_at k (sender ∷ order) [] = []
comings_at k (sender ∷ order) (item ∷ items) =
    if flow_of item == k then coming_of sender item ∷ comings_at k order items else comings_at k order items

-- what a flow gave that took the events which by this rule came of all that came to it
pub record IsRuledOutcome (rule : LossRule) (check : List ℕ → Bool) (flow : RuledFlow) (flow_record : FlowRecord) (comings : List Coming) (outcome : FlowOutcome) : Type 0 where
  pub events : List FlowEvent
  pub lasts : Lasts
  pub fates : Fates
  pub ruled : AreRuled rule flow comings events lasts fates
  pub gave : IsOutcomeOfFlow check flow_record events outcome

-- and so each flow
pub record AreRuledOutcomes (rule : LossRule) (check : List ℕ → Bool) (setup : Setup) (order : List ℕ) (items : List Event) (flows : List FlowOutcome) : Type 0 where
  pub count : length flows ≡ length setup.flows.items
  pub each : (k : ℕ) (flow_record : FlowRecord) → slice_get setup.flows.items k ≡ Some flow_record
      → (flow : FlowOutcome) × (slice_get flows k ≡ Some flow)
      × IsRuledOutcome rule check (ruled_flow setup.sids.items k flow_record) flow_record (comings_at k order items) flow

-- The one-thread answer by a rule for what comes in, in this order: as without one, but that each
-- flow takes the events which by the rule come of the items of the intake.
pub record IsOutcomeBy (rule : LossRule) (check : List ℕ → Bool) (setup : Setup) (incoming : Incoming) (order : List ℕ) (outcome : Outcome) : Type 0 where
  pub intake : IsIntake setup incoming order
  pub flows : AreRuledOutcomes rule check setup order intake.items outcome.flows.items
  pub request_lists : length outcome.requests ≡ channel_limit
  pub requests : (channel : ℕ) → channel < channel_limit → requests_on outcome channel ≡ requests_of (intake.answered channel)
  pub report_count : length outcome.lanes ≡ channel_limit
  pub reports : (channel : ℕ) (report : LaneReport) → channel < channel_limit → slice_get outcome.lanes channel ≡ Some report → IsReportOf (intake.answered channel) report
  pub order_is : outcome.order.items ≡ order
