-- Which service identifiers a table says were seen.
use Rattle.std.specs.Prelude.{ℕ, ◌+◌, ◌*◌, false, IsTrue, [], slice_index_or}
use Rattle.lane.specs.Limits.{sid_limit}
use Rattle.lane.specs.declared.sids.seen.SeenSids.{SeenSids}
use Rattle.lane.specs.declared.sids.table.SidTable.{SidTable}

-- this service identifier of this channel was seen
abbrev pub HasSeen : SeenSids → ℕ → ℕ → Type 0
HasSeen seen channel sid = IsTrue (slice_index_or (slice_index_or seen.seen channel []) sid false)

-- the same of the table of many channels, which stand one after another
abbrev pub HasMarked : SidTable → ℕ → ℕ → Type 0
HasMarked table channel sid = IsTrue (slice_index_or table.places.items (channel * sid_limit + sid) false)
