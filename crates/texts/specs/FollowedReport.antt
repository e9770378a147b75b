-- What a trace gives that is followed, beside what its report says.
use Rattle.std.specs.Prelude.{◌≡◌, ℕ, ◌<◌, ◌≤◌, Option, Some, None, List, [], length, slice_get}
use Rattle.consumer.specs.declared.given.Given.{Given}
use Rattle.consumer.specs.Given.{frames_of, requests_given}
use Rattle.flow_records.specs.Counted.{counted}
use Rattle.flow_records.specs.declared.record.FlowRecord.{FlowRecord}
use Rattle.lane.specs.declared.report.LaneReport.{LaneReport}
use Rattle.lane.specs.Limits.{channel_limit}
use Rattle.loss_rule.specs.declared.rule.LossRule.{LossRule}
use Rattle.loss_rule.specs.Rule.{Coming, RuledFlow}
use Rattle.bonded_flows.specs.FlowSetup.{ruled_flow}
use Rattle.bonded_flows.specs.Table.{TableSetup, flow_setup}
use Rattle.receiver.specs.declared.closing.Closed.{Closed}
use Rattle.receiver.specs.declared.outcome.FlowOutcome.{FlowOutcome}
use Rattle.receiver.specs.declared.outcome.Outcome.{Outcome}
use Rattle.receiver.specs.declared.setup.Setup.{Setup}
use Rattle.receiver.specs.declared.tally.LaneTally.{LaneTally}
use Rattle.receiver.specs.declared.width.Width.{Width}
use Rattle.receiver.specs.HandedIn.{HandedIn, made_of, flow_inputs, came_since}
use Rattle.receiver.specs.Outcome.{requests_on}
use Rattle.texts.specs.declared.follow.happening.Happening.{Happening}
use Rattle.texts.specs.declared.follow.happening.Happening.TheVariants.{Gave, Took, Decided, Stands}

-- what the receiver gave, if that happened
abbrev pub given_in : Happening → Option Given
given_in (Gave given) = Some given
given_in (Took name reply) = None
given_in (Decided flow reply) = None
given_in (Stands flow expected held) = None

-- what the rule has to know of flow k of a trace that is followed for a receiver of this width
abbrev pub followed_flow : LossRule → Width → Setup → ℕ → FlowRecord → RuledFlow
followed_flow rule width setup k flow_record = ruled_flow (flow_setup (made_of rule width.channels setup) k flow_record)

-- and all that came to it, where this was handed in
abbrev pub came_to : TableSetup → List HandedIn → ℕ → FlowRecord → List Coming
came_to made handed k flow_record = came_since made k flow_record (flow_inputs (length made.records) handed)

abbrev pub came_of_trace : LossRule → Width → Setup → List HandedIn → ℕ → FlowRecord → List Coming
came_of_trace rule width setup = came_to (made_of rule width.channels setup)

-- A flow gave the frames and has the identifier and the counts that an outcome says.
pub record GaveAsReported (setup : Setup) (given : List Given) (closed : Closed) (k : ℕ) (flow : FlowOutcome) : Type 0 where
  pub flow_record : FlowRecord
  pub at : slice_get setup.flows.items k ≡ Some flow_record
  pub identifier : flow_record.sfid ≡ flow.sfid
  pub frames : frames_of k given ≡ flow.frames.items
  pub counts : slice_get closed.flows.items k ≡ Some flow.counts

-- a channel admitted and refused as many as its report says
pub record IsTalliedAs (report : LaneReport) (tally : LaneTally) : Type 0 where
  pub admitted : tally.admitted ≡ report.admitted
  pub refused : tally.refused ≡ counted (length report.refused.items)

-- **What was given and counted is what an outcome says**: of each flow its frames, of each channel
-- its requests, both in order, and what was counted of both. Of no other flow, and on no other
-- channel, anything was given.
pub record IsGivenAsReported (outcome : Outcome) (setup : Setup) (given : List Given) (closed : Closed) : Type 0 where
  pub flow_count : length closed.flows.items ≡ length outcome.flows.items
  pub flows : (k : ℕ) (flow : FlowOutcome) → slice_get outcome.flows.items k ≡ Some flow → GaveAsReported setup given closed k flow
  pub other_flows : (k : ℕ) → length outcome.flows.items ≤ k → frames_of k given ≡ []
  pub requests : (channel : ℕ) → channel < channel_limit → requests_given channel given ≡ requests_on outcome channel
  pub other_channels : (channel : ℕ) → channel_limit ≤ channel → requests_given channel given ≡ []
  pub tallies : (channel : ℕ) (report : LaneReport) (tally : LaneTally) → channel < channel_limit → slice_get outcome.lanes channel ≡ Some report
      → slice_get closed.lanes.items channel ≡ Some tally → IsTalliedAs report tally
