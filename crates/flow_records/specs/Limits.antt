-- How many flows there are at most. `docsis_wire` and `reorder` limit segments and windows.
use Rattle.std.specs.Prelude.{ℕ}

-- the greatest number of flows by the profile
abbrev pub flows_max : ℕ
flows_max = 64

-- the greatest number of flows for which a receiver can be made
abbrev pub most_flows : ℕ
most_flows = 16384
