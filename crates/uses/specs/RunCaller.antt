-- What a caller of a running receiver knows of the frames of each flow.
use Rattle.std.specs.Prelude.{◌≡◌, ℕ, Bool, Some, List, length, slice_get}
use Rattle.docsis_wire.specs.declared.segment.Segment.{Segment}
use Rattle.docsis_wire.specs.Cut.{IsLawfulCut}
use Rattle.flow_records.specs.declared.record.FlowRecord.{FlowRecord}
use Rattle.flow_core.specs.Near.{AreNear}
use Rattle.receiver.specs.declared.outcome.FlowOutcome.{FlowOutcome}
use Rattle.receiver.specs.declared.setup.Setup.{Setup}
use Rattle.uplink.specs.Headline.{TookTheDeliverySequence}
use Rattle.receiver.specs.Intake.{IsIntake}
use Rattle.receiver.specs.Items.{Incoming, events_at}

-- What was taken of each flow of a receiver. The segments that each channel admits and the
-- decisions that name a flow came in some order. If those of a flow come near in it, and its
-- segments are those of one lawful cut of a modem's frames, what was taken is the flow's delivery
-- sequence: just the frames whose segments were all kept.
pub record TookOfEachFlow (check : List ℕ → Bool) (setup : Setup) (incoming : Incoming) (flows : List FlowOutcome) : Type 0 where
  pub order : List ℕ
  pub intake : IsIntake setup incoming order
  pub flow_count : length flows ≡ length setup.flows.items
  pub frames_taken : (k fill : ℕ) (flow_record : FlowRecord) (flow : FlowOutcome) (frames chunks : List (List ℕ)) (segments : List Segment)
      → slice_get setup.flows.items k ≡ Some flow_record → slice_get flows k ≡ Some flow
      → IsLawfulCut check frames flow_record.first fill chunks segments → AreNear flow_record.first flow_record.window segments (events_at k intake.items)
      → TookTheDeliverySequence frames chunks flow_record (events_at k intake.items) flow.frames.items
