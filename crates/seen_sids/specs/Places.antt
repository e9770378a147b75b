-- The places of SIDs among those that were seen.
use Rattle.std.specs.Prelude.{ℕ, ◌==◌, ◌&&◌, List, position, Option}
use Rattle.std.specs.List.{position_or_len}
use Rattle.seen_sids.specs.declared.seen_sid.SeenSid.{SeenSid}

-- so many pairs of a channel and a SID are told apart
abbrev pub most_pairs : ℕ
most_pairs = 1024

-- the place of this SID of this channel, if it was seen
abbrev pub sid_if_seen : ℕ → ℕ → List SeenSid → Option ℕ
sid_if_seen channel sid rows = position (λ row. row.channel == channel && row.sid == sid) rows

-- or how many were seen where it wasn't
abbrev pub place_of_sid : ℕ → ℕ → List SeenSid → ℕ
place_of_sid channel sid rows = position_or_len (λ row. row.channel == channel && row.sid == sid) rows
