-- The headline: what each flow's consumer took, where the flow's segments are those of a modem.
use Rattle.std.specs.Prelude.{◌≡◌, ◌<◌, ℕ, Bool, Some, List, ◌++◌, length, replicate, slice_get}
use Rattle.docsis_wire.specs.declared.segment.Segment.{Segment}
use Rattle.docsis_wire.specs.Cut.{IsLawfulCut}
use Rattle.ccf.specs.Filter.{FiltersTo}
use Rattle.flow_core.specs.declared.event.Applied.{Applied}
use Rattle.flow_records.specs.declared.record.FlowRecord.{FlowRecord}
use Rattle.flow_core.specs.Closing.{IsClosed, IsAllKept}
use Rattle.flow_core.specs.Delivery.{IsDeliverySequence}
use Rattle.flow_core.specs.Events.{FlowEvent, gap, IsAfter}
use Rattle.flow_core.specs.Fates.{Fates}
use Rattle.flow_core.specs.Near.{AreNear}
use Rattle.loss_rule.specs.declared.rule.LossRule.{LossRule}
use Rattle.loss_rule.specs.Rule.{Lasts, AreRuled}
use Rattle.receiver.specs.declared.outcome.FlowOutcome.{FlowOutcome}
use Rattle.receiver.specs.declared.outcome.Outcome.{Outcome}
use Rattle.receiver.specs.declared.setup.Setup.{Setup}
use Rattle.receiver.specs.Intake.{IsIntake}
use Rattle.receiver.specs.Outcome.{requests_on}
use Rattle.receiver.specs.Items.{Incoming, items_of, events_at}
use Rattle.receiver.specs.Ruled.{ruled_flow, comings_at}
use Rattle.lane.specs.Limits.{channel_limit}
use Rattle.receiver.specs.Order.{IsLawfulOrder, lengths_of}
use Rattle.lane.specs.Report.{requests_of}
use Rattle.uplink.specs.Fronts.{ComesFirstIn}

-- What was taken is the flow's whole delivery sequence: once these events and the flow's close have
-- decided what was kept and what is lost, exactly the modem's frames whose segments were all kept,
-- in the modem's order.
pub record TookTheDeliverySequence (frames chunks : List (List ℕ)) (flow_record : FlowRecord) (events : List FlowEvent) (taken : List (List ℕ)) : Type 0 where
  pub gaps : ℕ
  pub answers : List Applied
  pub fates : Fates
  pub after : IsAfter flow_record.first flow_record.window (events ++ replicate gaps gap) answers fates
  pub closed : IsClosed fates
  pub sequence : IsDeliverySequence frames chunks fates taken
  pub all_kept : FiltersTo (IsAllKept frames chunks fates) frames taken

-- What was taken comes first in the flow's delivery sequence: in that after the first of these
-- events, or after all and some gaps of the flow's close.
pub record TookAFront (frames chunks : List (List ℕ)) (flow_record : FlowRecord) (events : List FlowEvent) (taken : List (List ℕ)) : Type 0 where
  pub gaps : ℕ
  pub reached : List FlowEvent
  pub reached_is : ComesFirstIn reached (events ++ replicate gaps gap)
  pub answers : List Applied
  pub fates : Fates
  pub after : IsAfter flow_record.first flow_record.window reached answers fates
  pub sequence : List (List ℕ)
  pub sequence_is : IsDeliverySequence frames chunks fates sequence
  pub front : ComesFirstIn taken sequence

-- The headline, of what a receiver gave for what came in, in this order. The order is a lawful one
-- of all that each channel admits and all decisions that name a flow. There are as many flows as
-- records. What each flow's consumer took is the flow's whole delivery sequence, if the flow's
-- segments are those of one lawful cut of a modem's frames and its events in that order are near.
-- And the requests of each channel are those of its admitted segments, each once and in their
-- order.
pub record KeepsTheHeadline (check : List ℕ → Bool) (setup : Setup) (incoming : Incoming) (order : List ℕ) (outcome : Outcome) : Type 0 where
  pub intake : IsIntake setup incoming order
  pub lawful : IsLawfulOrder (lengths_of (items_of setup incoming intake.answered)) order
  pub flow_count : length outcome.flows.items ≡ length setup.flows.items
  pub delivered : (k fill : ℕ) (flow_record : FlowRecord) (flow : FlowOutcome) (frames chunks : List (List ℕ)) (segments : List Segment)
      → slice_get setup.flows.items k ≡ Some flow_record → slice_get outcome.flows.items k ≡ Some flow
      → IsLawfulCut check frames flow_record.first fill chunks segments
      → AreNear flow_record.first flow_record.window segments (events_at k intake.items)
      → TookTheDeliverySequence frames chunks flow_record (events_at k intake.items) flow.frames.items
  pub requested : (channel : ℕ) → channel < channel_limit → requests_on outcome channel ≡ requests_of (intake.answered channel)

-- The headline of a receiver that decides by a rule besides. All is the same but for the events of
-- a flow, which are now those that by the rule come of all that comes to it in that order.
pub record KeepsTheHeadlineBy (rule : LossRule) (check : List ℕ → Bool) (setup : Setup) (incoming : Incoming) (order : List ℕ) (outcome : Outcome) : Type 0 where
  pub intake : IsIntake setup incoming order
  pub lawful : IsLawfulOrder (lengths_of (items_of setup incoming intake.answered)) order
  pub flow_count : length outcome.flows.items ≡ length setup.flows.items
  pub delivered : (k fill : ℕ) (flow_record : FlowRecord) (flow : FlowOutcome) (frames chunks : List (List ℕ)) (segments : List Segment)
      (events : List FlowEvent) (lasts : Lasts) (fates : Fates)
      → slice_get setup.flows.items k ≡ Some flow_record → slice_get outcome.flows.items k ≡ Some flow
      → AreRuled rule (ruled_flow setup.sids.items k flow_record) (comings_at k order intake.items) events lasts fates
      → IsLawfulCut check frames flow_record.first fill chunks segments
      → AreNear flow_record.first flow_record.window segments events
      → TookTheDeliverySequence frames chunks flow_record events flow.frames.items
  pub requested : (channel : ℕ) → channel < channel_limit → requests_on outcome channel ≡ requests_of (intake.answered channel)
