-- On which channels a flow has a service identifier.
use Rattle.std.specs.Prelude.{ℕ, zero, suc, ◌==◌, ◌&&◌, Bool, List, [], ◌∷◌}
use Rattle.std.specs.List.{list_any}
use Rattle.lane.specs.declared.sids.SidRow.{SidRow}

-- a row gives the flow a service identifier on this channel
abbrev pub has_row : List SidRow → ℕ → ℕ → Bool
has_row rows flow channel = list_any (λ row. (row.flow == flow) && (row.channel == channel)) rows

-- of so many channels, from this one on, whether each is the flow's
abbrev pub channels_from : List SidRow → ℕ → ℕ → ℕ → List Bool
channels_from rows flow channel zero = []
channels_from rows flow channel (suc n) = has_row rows flow channel ∷ channels_from rows flow (suc channel) n

-- of so many channels, from 0 on
abbrev pub channels_within : ℕ → List SidRow → ℕ → List Bool
channels_within channels rows flow = channels_from rows flow 0 channels
