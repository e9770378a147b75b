-- What is made of a burst that was received in a grant.
use Rattle.std.specs.Prelude.{◌≡◌, ℕ, ◌<◌, ◌≤◌, ◌⊎◌, Bool, IsTrue, Option, Some, None, Result, Ok, Err, List, length}
use Rattle.docsis_wire.specs.declared.header.SegmentHeader.{SegmentHeader}
use Rattle.docsis_wire.specs.SegmentBytes.{segment_bytes, PointsPast}
use Rattle.docsis_wire.specs.Limits.{header_length}
use Rattle.lane.specs.declared.admitted.Admitted.{Admitted}
use Rattle.lane.specs.declared.admitted.Request.{Request}
use Rattle.lane.specs.declared.refusal.Refusal.{Refusal}
use Rattle.lane.specs.declared.refusal.Refusal.TheVariants.{TooLong, BadCheck, TooShort, PointerPast}
use Rattle.lane.specs.declared.grant.SidFlow.{SidFlow}
use Rattle.lane.specs.declared.grant.OutstandingGrant.{OutstandingGrant}

-- The request in a segment's header that came on this channel: none if no units are asked for or
-- the flow doesn't have the cluster.
abbrev pub IsRequestIn : ℕ → SidFlow → SegmentHeader → Option Request → Type 0
IsRequestIn channel flow head None = (head.request ≡ 0) ⊎ (flow.clusters ≤ head.cluster)
IsRequestIn channel flow head (Some request) =
    (0 < head.request) × (head.cluster < flow.clusters)
    × (request ≡ record { channel = channel; flow = flow.index; cluster = head.cluster; units = head.request; sequence = head.sequence })

-- what is admitted of a burst that spells a segment: the segment, its flow and its request
pub record IsAdmitted (channel : ℕ) (flow : SidFlow) (bytes : List ℕ) (admitted : Admitted) : Type 0 where
  pub flow_is : admitted.flow ≡ flow.index
  pub spelled : segment_bytes admitted.segment ≡ bytes
  pub request : IsRequestIn channel flow admitted.segment.head admitted.request

-- The burst fits the grant: no refusal that spends the grant applies.
abbrev pub Fits : OutstandingGrant → Bool → List ℕ → Type 0
Fits grant hcs_ok bytes = (length bytes ≤ grant.bytes) × IsTrue hcs_ok × (header_length ≤ length bytes) × ¬ (PointsPast bytes)

-- What is made of a burst in a grant, the first that fits.
abbrev pub IsMadeOf : ℕ → OutstandingGrant → Bool → List ℕ → Result Admitted Refusal → Type 0
IsMadeOf channel grant hcs_ok bytes (Err TooLong) = grant.bytes < length bytes
IsMadeOf channel grant hcs_ok bytes (Err BadCheck) = (length bytes ≤ grant.bytes) × ¬ (IsTrue hcs_ok)
IsMadeOf channel grant hcs_ok bytes (Err TooShort) = (length bytes ≤ grant.bytes) × IsTrue hcs_ok × (length bytes < header_length)
IsMadeOf channel grant hcs_ok bytes (Err PointerPast) = (length bytes ≤ grant.bytes) × IsTrue hcs_ok × PointsPast bytes
IsMadeOf channel grant hcs_ok bytes (Ok admitted) =
    (length bytes ≤ grant.bytes) × IsTrue hcs_ok × IsAdmitted channel grant.flow bytes admitted
IsMadeOf channel grant hcs_ok bytes (Err _) = ⊥
