-- The channel of an upstream channel id, and the flow of a service identifier of a channel.
use Rattle.std.specs.Prelude.{◌≡◌, ℕ, ◌+◌, ◌*◌, ◌<◌, ◌==◌, ◌&&◌, nat_lt, Bool, Option, Some, None, List, find, length, slice_index_or, option_map, if◌then◌else◌}
use Rattle.capture_map.specs.declared.map.MapChannel.{MapChannel}
use Rattle.capture_map.specs.declared.map.CaptureMap.{CaptureMap}
use Rattle.capture_map.specs.declared.map.MapSid.{MapSid}

-- the channel of the first row with this id
abbrev pub channel_of : List MapChannel → ℕ → Option ℕ
channel_of channels id = option_map (λ one. one.channel) (find (λ one. one.id == id) channels)

-- so many channels have service identifiers, and each has so many
abbrev pub most_channels : ℕ
most_channels = 16

abbrev pub most_sids : ℕ
most_sids = 16384

-- a row of this channel and this service identifier
abbrev pub is_row : ℕ → ℕ → MapSid → Bool
is_row channel sid row = row.channel == channel && row.sid == sid

-- the flow of the first such row
abbrev pub row_flow : List MapSid → ℕ → ℕ → Option ℕ
row_flow rows channel sid = option_map (λ row. row.flow) (find (is_row channel sid) rows)

abbrev pub flow_of : List MapSid → ℕ → ℕ → Option ℕ
flow_of rows channel sid = if nat_lt channel most_channels && nat_lt sid most_sids then row_flow rows channel sid else None

-- the flow of an upstream channel id and a service identifier in a map
abbrev pub flow_on : List MapSid → ℕ → Option ℕ → Option ℕ
flow_on rows sid None = None
flow_on rows sid (Some channel) = flow_of rows channel sid

abbrev pub flow_in_map : CaptureMap → ℕ → ℕ → Option ℕ
flow_in_map capture_map id sid = flow_on capture_map.sids.items sid (channel_of capture_map.channels.items id)

-- ---- inside

-- the place of a service identifier of a channel in a table
abbrev pub place_of : ℕ → ℕ → ℕ
place_of channel sid = channel * most_sids + sid

-- a table of the flows of these rows
pub record IsTableOf (rows : List MapSid) (table : List (Option ℕ)) : Type 0 where
  pub many : length table ≡ 262144
  pub each : (channel sid : ℕ) → channel < most_channels → sid < most_sids → slice_index_or table (place_of channel sid) None ≡ row_flow rows channel sid
