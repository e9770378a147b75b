-- How many channels, service identifiers, bytes of a grant and outstanding grants there may be.
use Rattle.std.specs.Prelude.{ℕ}

-- there are four channels
abbrev pub channel_limit : ℕ
channel_limit = 4

-- the greatest number of channels for which a receiver can be made
abbrev pub most_channels : ℕ
most_channels = 16

-- with the decisions, which come beside the channels, there are five senders
abbrev pub senders : ℕ
senders = 5

-- a service identifier has 14 bits, and is below this
abbrev pub sid_limit : ℕ
sid_limit = 16384

-- a grant has at most so many bytes, the segment header included
abbrev pub grant_max : ℕ
grant_max = 65535

-- so many grants of a channel may be outstanding
abbrev pub outstanding_max : ℕ
outstanding_max = 65536
