-- What a caller knows of the frames of each flow who lets a rule decide which segments are lost.
use Rattle.std.specs.Prelude.{◌≡◌, ℕ, Bool, Some, List, length, slice_get}
use Rattle.ccf.specs.Filter.{FiltersTo}
use Rattle.flow_records.specs.declared.record.FlowRecord.{FlowRecord}
use Rattle.loss_rule.specs.declared.rule.LossRule.{LossRule}
use Rattle.loss_rule.specs.declared.rule.LossRule.TheVariants.{PassedOrSlid}
use Rattle.loss_rule.specs.InOrder.{IsAllCome}
use Rattle.receiver.specs.declared.outcome.FlowOutcome.{FlowOutcome}
use Rattle.receiver.specs.declared.setup.Setup.{Setup}
use Rattle.receiver.specs.AdmittedOrder.{IsAdmittedOrder}
use Rattle.receiver.specs.Intake.{IsIntake}
use Rattle.receiver.specs.Items.{Incoming}
use Rattle.receiver.specs.Modem.{ComeFromAModem}
use Rattle.receiver.specs.Ruled.{ruled_flow, comings_at, AreRuledOutcomes}

-- What each flow of a receiver gave that decides by this rule, for what came in, in the order of
-- these tags.
pub record AreFlowsBy (rule : LossRule) (check : List ℕ → Bool) (setup : Setup) (incoming : Incoming) (tags : List ℕ) (flows : List FlowOutcome) : Type 0 where
  pub order : List ℕ
  pub admitted : IsAdmittedOrder setup incoming tags order
  pub intake : IsIntake setup incoming order
  pub flows_are : AreRuledOutcomes rule check setup order intake.items flows

-- What each flow of a receiver gave for what came in, in the order of these tags. If what comes to
-- a flow is of a modem that sends these frames, it gave just those of them of which each segment
-- came in, in the modem's order.
pub record GaveTheFramesThatAllCame (check : List ℕ → Bool) (setup : Setup) (incoming : Incoming) (tags : List ℕ) (flows : List FlowOutcome) : Type 0 where
  pub order : List ℕ
  pub admitted : IsAdmittedOrder setup incoming tags order
  pub intake : IsIntake setup incoming order
  pub flow_count : length flows ≡ length setup.flows.items
  pub frames_given : (k : ℕ) (flow_record : FlowRecord) (flow : FlowOutcome) (frames : List (List ℕ))
      → slice_get setup.flows.items k ≡ Some flow_record → slice_get flows k ≡ Some flow
      → (modem : ComeFromAModem PassedOrSlid check (ruled_flow setup.sids.items k flow_record) frames (comings_at k order intake.items))
      → FiltersTo (IsAllCome frames modem.chunks (comings_at k order intake.items) modem.index_at) frames flow.frames.items
