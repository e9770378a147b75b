-- What comes in, and other things that come in in its place: bursts of flows that aren't selected
-- have other bytes behind the same header.
use Rattle.std.specs.Prelude.{◌≡◌, ℕ, ◌<◌, Bool, true, Some, List, length, take, slice_get}
use Rattle.std.specs.List.{AllZip}
use Rattle.docsis_wire.specs.Limits.{header_length}
use Rattle.lane.specs.declared.admitted.Admitted.{Admitted}
use Rattle.lane.specs.declared.input.Input.{Input}
use Rattle.lane.specs.declared.input.Input.TheVariants.{Grant, Burst}
use Rattle.lane.specs.declared.report.LaneReport.{LaneReport}
use Rattle.lane.specs.Limits.{channel_limit}
use Rattle.lane.specs.Inputs.{AnsweredInput}
use Rattle.lane.specs.Report.{admitted_by}
use Rattle.receiver.specs.declared.setup.Setup.{Setup}
use Rattle.receiver.specs.declared.outcome.FlowOutcome.{FlowOutcome}
use Rattle.receiver.specs.declared.outcome.Outcome.{Outcome}
use Rattle.receiver.specs.Items.{Incoming, AreLanesOf}
use Rattle.receiver.specs.Outcome.{requests_on}
use Rattle.receiver.specs.SameOutcome.{GaveTheSame, ReportTheSame}

-- the same grant; or a burst in the same grant, with the same header and as many bytes
abbrev pub LooksLike : Input → Input → Type 0
LooksLike (Grant number sid bytes) other = other ≡ Grant number sid bytes
LooksLike (Burst number hcs_ok bytes) (Grant other sid size) = ⊥
LooksLike (Burst number hcs_ok bytes) (Burst other also more) =
    (other ≡ number) × (also ≡ hcs_ok) × (length more ≡ length bytes) × (take header_length more ≡ take header_length bytes)

-- It looks like an input that had this answer, and is that input if what it admitted is of a flow
-- that is selected.
pub record StandsIn (selected : ℕ → Bool) (one : AnsweredInput) (other : Input) : Type 0 where
  pub looks_like : LooksLike one.input other
  pub same : (admitted : Admitted) → admitted_by one.answer ≡ Some admitted → selected admitted.flow ≡ true → other ≡ one.input

-- Inputs of each channel that stand in for those of what comes in, and the same decisions.
pub record DiffersElsewhere (selected : ℕ → Bool) (setup : Setup) (incoming other : Incoming) : Type 0 where
  pub answered : ℕ → List AnsweredInput
  pub lanes : AreLanesOf setup incoming answered
  pub inputs : (channel : ℕ) → channel < channel_limit → AllZip (StandsIn selected) (answered channel) (other.inputs channel)
  pub decisions : other.decisions ≡ incoming.decisions

-- As many flows gave something, those that are selected the same; there are as many lists of
-- requests and reports of lanes; and on each channel the same was asked for and reported, in the
-- same order of items. Where all flows are selected this says all that `IsSameOutcome` does.
pub record AgreesOn (selected : ℕ → Bool) (outcome other : Outcome) : Type 0 where
  pub count : length outcome.flows.items ≡ length other.flows.items
  pub flows : (k : ℕ) (flow another : FlowOutcome) → selected k ≡ true
      → slice_get outcome.flows.items k ≡ Some flow → slice_get other.flows.items k ≡ Some another → GaveTheSame flow another
  pub request_lists : length outcome.requests ≡ length other.requests
  pub requests : (channel : ℕ) → requests_on outcome channel ≡ requests_on other channel
  pub report_count : length outcome.lanes ≡ length other.lanes
  pub reports : (channel : ℕ) (report another : LaneReport)
      → slice_get outcome.lanes channel ≡ Some report → slice_get other.lanes channel ≡ Some another → ReportTheSame report another
  pub order : outcome.order.items ≡ other.order.items
