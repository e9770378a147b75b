-- Which rows of service identifiers a lane can be opened with.
use Rattle.std.specs.Prelude.{◌≡◌, ℕ, ◌<◌, ◌≤◌, ◌⊎◌, Some, List, slice_get}
use Rattle.flow_records.specs.Setup.{IsLeast}
use Rattle.lane.specs.declared.sids.SidRow.{SidRow}
use Rattle.lane.specs.Limits.{channel_limit, sid_limit}
use Rattle.lane.specs.declared.sids.LaneFault.{LaneFault}
use Rattle.lane.specs.declared.sids.LaneFault.TheVariants.{SidRange, SameSid, UnknownFlow, OutOfMemory}

-- of so many channels: the channel or the service identifier of row k is out of range
abbrev pub IsOutOfRangeWithin : ℕ → List SidRow → ℕ → Type 0
IsOutOfRangeWithin channels rows k =
    (row : SidRow) × (slice_get rows k ≡ Some row) × ((channels ≤ row.channel) ⊎ (sid_limit ≤ row.sid))

-- the same of the profile's four channels
abbrev pub IsOutOfRange : List SidRow → ℕ → Type 0
IsOutOfRange = IsOutOfRangeWithin channel_limit

-- the channel and the service identifier of row k stand in an earlier row
abbrev pub IsSidRepeated : List SidRow → ℕ → Type 0
IsSidRepeated rows k =
    (j : ℕ) × (j < k) × (row : SidRow) × (earlier : SidRow)
    × (slice_get rows k ≡ Some row) × (slice_get rows j ≡ Some earlier) × (earlier.channel ≡ row.channel) × (earlier.sid ≡ row.sid)

-- there are so many flows, and row k names none of them
abbrev pub NamesNoFlow : List SidRow → ℕ → ℕ → Type 0
NamesNoFlow rows flow_count k = (row : SidRow) × (slice_get rows k ≡ Some row) × (flow_count ≤ row.flow)

-- The first fault of the rows of so many channels, in the order in which they are looked for.
abbrev pub IsLaneFaultWithin : ℕ → List SidRow → ℕ → LaneFault → Type 0
IsLaneFaultWithin channels rows flow_count (SidRange k) = IsLeast (IsOutOfRangeWithin channels rows) k
IsLaneFaultWithin channels rows flow_count (SameSid k) =
    ((j : ℕ) → ¬ (IsOutOfRangeWithin channels rows j)) × IsLeast (IsSidRepeated rows) k
IsLaneFaultWithin channels rows flow_count (UnknownFlow k) =
    ((j : ℕ) → ¬ (IsOutOfRangeWithin channels rows j)) × ((j : ℕ) → ¬ (IsSidRepeated rows j)) × IsLeast (NamesNoFlow rows flow_count) k
IsLaneFaultWithin channels rows flow_count OutOfMemory = ⊥

-- the same of the profile's four channels
abbrev pub IsLaneFault : List SidRow → ℕ → LaneFault → Type 0
IsLaneFault = IsLaneFaultWithin channel_limit

-- the rows of so many channels have no fault, where there are so many flows
pub record CanBeOpenedWithin (channels : ℕ) (rows : List SidRow) (flow_count : ℕ) : Type 0 where
  pub in_range : (k : ℕ) → ¬ (IsOutOfRangeWithin channels rows k)
  pub apart : (k : ℕ) → ¬ (IsSidRepeated rows k)
  pub known : (k : ℕ) → ¬ (NamesNoFlow rows flow_count k)

-- the rows of the profile's four channels have no fault
abbrev pub CanBeOpened : List SidRow → ℕ → Type 0
CanBeOpened = CanBeOpenedWithin channel_limit
