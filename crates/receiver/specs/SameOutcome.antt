-- Outcomes that say the same.
use Rattle.std.specs.Prelude.{◌≡◌, ℕ, ◌<◌, Some, length, slice_get}
use Rattle.receiver.specs.declared.outcome.FlowOutcome.{FlowOutcome}
use Rattle.lane.specs.declared.report.LaneReport.{LaneReport}
use Rattle.receiver.specs.declared.outcome.Outcome.{Outcome}
use Rattle.lane.specs.Limits.{channel_limit}
use Rattle.receiver.specs.Outcome.{requests_on}

-- two flows gave the same
pub record GaveTheSame (flow other : FlowOutcome) : Type 0 where
  pub sfid : flow.sfid ≡ other.sfid
  pub frames : flow.frames.items ≡ other.frames.items
  pub counts : flow.counts ≡ other.counts

-- two channels reported the same
pub record ReportTheSame (report other : LaneReport) : Type 0 where
  pub admitted : report.admitted ≡ other.admitted
  pub refused : report.refused.items ≡ other.refused.items

-- As many flows gave the same, and on each channel the same was asked for and reported, in the same
-- order of items.
pub record IsSameOutcome (outcome other : Outcome) : Type 0 where
  pub count : length outcome.flows.items ≡ length other.flows.items
  pub flows : (k : ℕ) (flow another : FlowOutcome)
      → slice_get outcome.flows.items k ≡ Some flow → slice_get other.flows.items k ≡ Some another → GaveTheSame flow another
  pub requests : (channel : ℕ) → channel < channel_limit → requests_on outcome channel ≡ requests_on other channel
  pub reports : (channel : ℕ) (report another : LaneReport) → channel < channel_limit
      → slice_get outcome.lanes channel ≡ Some report → slice_get other.lanes channel ≡ Some another → ReportTheSame report another
  pub order : outcome.order.items ≡ other.order.items
