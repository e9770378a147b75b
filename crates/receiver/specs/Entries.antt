-- What was recorded of a receiver's channels as one list: inputs and decisions, in the order in
-- which they came.
use Rattle.std.specs.Prelude.{ℕ, ◌==◌, Option, Some, None, List, filter_map, if◌then◌else◌}
use Rattle.lane.specs.declared.input.Input.{Input}
use Rattle.lane.specs.Limits.{channel_limit}
use Rattle.flow_records.specs.declared.decision.Decision.{Decision}
use Rattle.receiver.specs.Items.{Incoming}

-- an input that came on a channel, or a decision
pub data Entry : Type 0 where
  came : ℕ → Input → Entry
  decided : Decision → Entry

-- its sender: its channel, or the sender of decisions
abbrev pub tag_of : Entry → ℕ
tag_of (came channel input) = channel
tag_of (decided decision) = channel_limit

-- what came in on this channel, if it is that
abbrev pub came_on : ℕ → Entry → Option Input
came_on channel (came other input) = if other == channel then Some input else None
came_on channel (decided decision) = None

-- the decision that it is
abbrev pub decision_in : Entry → Option Decision
decision_in (came channel input) = None
decision_in (decided decision) = Some decision

-- of each channel its inputs, and the decisions, each in order
abbrev pub incoming_in : List Entry → Incoming
incoming_in entries = record { inputs = λ channel. filter_map (came_on channel) entries; decisions = filter_map decision_in entries }
