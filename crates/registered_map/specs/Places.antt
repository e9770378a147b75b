-- The places of flows and channels among those that were told, and the flow of a SID.
use Rattle.std.specs.Prelude.{ℕ, max, ◌==◌, ◌&&◌, List, find, position, Option, Some, None, option_map, slice_get, slice_set}
use Rattle.std.specs.List.{position_or_len}
use Rattle.registered_map.specs.declared.telling.RegisteredFlow.{RegisteredFlow}
use Rattle.registered_map.specs.declared.telling.RegisteredChannel.{RegisteredChannel}
use Rattle.registered_map.specs.declared.telling.RegisteredSid.{RegisteredSid}

-- a map may have so many flows and channels
abbrev pub most_flows : ℕ
most_flows = 16384

abbrev pub most_channels : ℕ
most_channels = 16

-- the place of the flow with this service flow identifier, if there is one
abbrev pub flow_if_named : ℕ → List RegisteredFlow → Option ℕ
flow_if_named sfid flows = position (λ flow. flow.sfid == sfid) flows

-- or how many flows there are where there is none
abbrev pub place_of_flow : ℕ → List RegisteredFlow → ℕ
place_of_flow sfid flows = position_or_len (λ flow. flow.sfid == sfid) flows

-- so of the channel with this upstream channel id
abbrev pub place_of_channel : ℕ → List RegisteredChannel → ℕ
place_of_channel id channels = position_or_len (λ one. one.id == id) channels

-- the flow to which a SID of a channel was added, if it was
abbrev pub owner_of : ℕ → ℕ → List RegisteredSid → Option ℕ
owner_of channel sid rows = option_map (λ row. row.flow) (find (λ row. row.channel == channel && row.sid == sid) rows)

-- the flow at a place has so many clusters or more
abbrev pub with_clusters : ℕ → ℕ → List RegisteredFlow → Option RegisteredFlow → List RegisteredFlow
with_clusters place clusters flows None = flows
with_clusters place clusters flows (Some flow) = slice_set flows place (record flow { clusters = max flow.clusters clusters })

abbrev pub raise_clusters : ℕ → ℕ → List RegisteredFlow → List RegisteredFlow
raise_clusters place clusters flows = with_clusters place clusters flows (slice_get flows place)
