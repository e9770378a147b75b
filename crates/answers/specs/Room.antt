-- What comes in to a receiver is of bytes, and is so little that what comes of it fits into lists
-- of memory.
use Rattle.std.specs.Prelude.{ℕ, ◌<◌, ◌^◌, List, length}
use Rattle.std.specs.List.{All}
use Rattle.lane.specs.Limits.{channel_limit}
use Rattle.lane.specs.Inputs.{HasBytes}
use Rattle.receiver.specs.Entries.{Entry, came, decided}
use Rattle.receiver.specs.Items.{Incoming}

-- an entry that is a burst is of bytes
abbrev pub EntryHasBytes : Entry → Type 0
EntryHasBytes (came channel input) = HasBytes input
EntryHasBytes (decided decision) = Unit {0}

-- the bursts of each channel are of bytes
abbrev pub AreBurstsOfBytes : Incoming → Type 0
AreBurstsOfBytes incoming = (channel : ℕ) → channel < channel_limit → All HasBytes (incoming.inputs channel)

-- Each channel has fewer inputs than a list in memory can have elements, and of all that is
-- admitted and decided there are fewer than 2^48: more than eight years of a million a second.
pub record HasRoom (incoming : Incoming) (order : List ℕ) : Type 0 where
  pub inputs : (channel : ℕ) → channel < channel_limit → length (incoming.inputs channel) < 2 ^ 63
  pub items : length order < 2 ^ 48
