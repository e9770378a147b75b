-- One flow that is played to its end.
use Rattle.std.specs.Prelude.{ℕ, Bool, List, map}
use Rattle.docsis_wire.specs.declared.segment.Segment.{Segment}
use Rattle.docsis_wire.specs.Cut.{IsLawfulCut}
use Rattle.flow_records.specs.declared.record.FlowRecord.{FlowRecord}
use Rattle.flow_core.specs.declared.event.Applied.{Applied}
use Rattle.flow_core.specs.Fates.{Fates}
use Rattle.flow_core.specs.Events.{FlowEvent, arrives, IsAfter}
use Rattle.flow_core.specs.Near.{AreNear}
use Rattle.flow_core.specs.Delivery.{IsDeliverySequence}
use Rattle.flow_core.specs.Closing.{Closes}

-- these segments arrive, in this order
abbrev pub arrivals : List Segment → List FlowEvent
arrivals segments = map arrives segments

-- The fates after the arrivals of these segments and the close are these.
pub record IsPlayedTo (flow_record : FlowRecord) (segments : List Segment) (closed : Fates) : Type 0 where
  pub answers : List Applied
  pub fates : Fates
  pub after : IsAfter flow_record.first flow_record.window (arrivals segments) answers fates
  pub closes : Closes flow_record.first flow_record.window fates closed

-- What the arrivals of these segments and the close give: for all frames of a modem, and every
-- lawful cut of them to which the arrivals are near, the delivery sequence.
abbrev pub GivesWhatIsDelivered : (List ℕ → Bool) → FlowRecord → List Segment → List (List ℕ) → Type 0
GivesWhatIsDelivered check flow_record segments given =
    (frames chunks : List (List ℕ)) (fill : ℕ) (cut : List Segment) (closed : Fates)
    → IsLawfulCut check frames flow_record.first fill chunks cut
    → AreNear flow_record.first flow_record.window cut (arrivals segments)
    → IsPlayedTo flow_record segments closed
    → IsDeliverySequence frames chunks closed given
