-- Which records of flows can be set up.
use Rattle.std.specs.Prelude.{◌≡◌, ℕ, ◌<◌, ◌≤◌, Some, List, length, slice_get}
use Rattle.docsis_wire.specs.Limits.{sequence_modulus, cluster_limit}
use Rattle.reorder.specs.Limits.{width_max}
use Rattle.flow_records.specs.Limits.{flows_max}
use Rattle.flow_records.specs.declared.record.FlowRecord.{FlowRecord}
use Rattle.flow_records.specs.declared.record.SetupFault.{SetupFault}
use Rattle.flow_records.specs.declared.record.SetupFault.TheVariants.{TooManyFlows, BadFlow, SameSfid, OutOfMemory}

-- each field of a record lies in its range
pub record IsInRange (flow_record : FlowRecord) : Type 0 where
  pub first : flow_record.first < sequence_modulus
  pub window_positive : 1 ≤ flow_record.window
  pub window_in_range : flow_record.window ≤ width_max
  pub clusters_positive : 1 ≤ flow_record.clusters
  pub clusters_in_range : flow_record.clusters ≤ cluster_limit
  pub ring_positive : 1 ≤ flow_record.ring

-- record k is out of range
abbrev pub IsBad : List FlowRecord → ℕ → Type 0
IsBad records k = (flow_record : FlowRecord) × (slice_get records k ≡ Some flow_record) × ¬ (IsInRange flow_record)

-- the service flow identifier of record k stands in an earlier record
abbrev pub IsRepeated : List FlowRecord → ℕ → Type 0
IsRepeated records k =
    (j : ℕ) × (j < k) × (flow_record : FlowRecord) × (earlier : FlowRecord)
    × (slice_get records k ≡ Some flow_record) × (slice_get records j ≡ Some earlier) × (earlier.sfid ≡ flow_record.sfid)

-- k is the least number with the property
abbrev pub IsLeast : (ℕ → Type 0) → ℕ → Type 0
IsLeast P k = P k × ((j : ℕ) → j < k → ¬ (P j))

-- The first fault of some records, of which there may be so many, in the order in which faults are
-- looked for.
abbrev pub IsSetupFaultWithin : ℕ → List FlowRecord → SetupFault → Type 0
IsSetupFaultWithin limit records TooManyFlows = limit < length records
IsSetupFaultWithin limit records (BadFlow k) = (length records ≤ limit) × IsLeast (IsBad records) k
IsSetupFaultWithin limit records (SameSfid k) =
    (length records ≤ limit) × ((j : ℕ) → ¬ (IsBad records j)) × IsLeast (IsRepeated records) k
IsSetupFaultWithin limit records OutOfMemory = ⊥

-- the first fault of the records of a receiver with at most 64 flows
abbrev pub IsSetupFault : List FlowRecord → SetupFault → Type 0
IsSetupFault = IsSetupFaultWithin flows_max

-- The records, of which there may be so many, have no fault: none is out of range, so each is in
-- range.
pub record CanBeSetUpWithin (limit : ℕ) (records : List FlowRecord) : Type 0 where
  pub few : length records ≤ limit
  pub in_range : (k : ℕ) → ¬ (IsBad records k)
  pub each : (k : ℕ) (flow_record : FlowRecord) → slice_get records k ≡ Some flow_record → IsInRange flow_record
  pub apart : (k : ℕ) → ¬ (IsRepeated records k)

-- the records of a receiver with at most 64 flows have no fault
abbrev pub CanBeSetUp : List FlowRecord → Type 0
CanBeSetUp = CanBeSetUpWithin flows_max
