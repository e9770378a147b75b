-- The channels of what a source gives.
use Rattle.std.specs.Prelude.{◌≡◌, ℕ, ◌==◌, ◌%◌, ◌&&◌, not, nat_lt, nat_le, Bool, Option, Some, None, List, length, map, filter, filter_map, if◌then◌else◌}
use Rattle.flow_records.specs.Counted.{counted}
use Rattle.lane.specs.declared.input.Input.{Input}
use Rattle.workers.specs.declared.channel_input.ChannelInput.{ChannelInput}
use Rattle.workers.specs.declared.strays.Strays.{Strays}

-- the inputs of this channel, in order
abbrev pub input_on : ℕ → ChannelInput → Option Input
input_on channel one = if one.channel == channel then Some one.input else None

abbrev pub given_on : ℕ → List ChannelInput → List Input
given_on channel all = filter_map (input_on channel) all

-- inputs that all come on this channel
abbrev pub all_on : ℕ → List Input → List ChannelInput
all_on channel inputs = map (λ input. record { channel = channel; input = input }) inputs

-- of so many channels, whether this one belongs to the source: it is there, and its number leaves
-- the source's when divided by four
abbrev pub belongs_to : ℕ → ℕ → ℕ → Bool
belongs_to channels source channel = nat_lt channel channels && (channel % 4 == source)

-- how many of these inputs are of a channel that is there and isn't one of these, and how many are
-- of no channel
pub record AreStraysOf (channels : ℕ) (own : ℕ → Bool) (inputs : List ChannelInput) (strays : Strays) : Type 0 where
  pub foreign : strays.foreign ≡ counted (length (filter (λ one. nat_lt one.channel channels && not (own one.channel)) inputs))
  pub absent : strays.absent ≡ counted (length (filter (λ one. nat_le channels one.channel) inputs))
