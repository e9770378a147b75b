-- What the five senders send: the segments that each channel admits, and the decisions.
use Rattle.std.specs.Prelude.{◌≡◌, ℕ, ◌<◌, ◌==◌, nat_lt, Bool, List, [], map, filter, length, is_some, slice_index_or, if◌then◌else◌}
use Rattle.flow_records.specs.declared.event.Event.{Event}
use Rattle.flow_core.specs.Events.{FlowEvent}
use Rattle.flow_core.specs.Flows.{event_of}
use Rattle.flow_records.specs.Events.{flow_of, IsTakable}
use Rattle.flow_records.specs.Decisions.{names_a_flow, event_of_decision}
use Rattle.lane.specs.declared.input.Input.{Input}
use Rattle.flow_records.specs.declared.decision.Decision.{Decision}
use Rattle.receiver.specs.declared.setup.Setup.{Setup}
use Rattle.receiver.specs.declared.setup.Lists.{Lists}
use Rattle.lane.specs.Limits.{channel_limit}
use Rattle.lane.specs.Inputs.{LaneSetup, AnsweredInput, AreAnswered, inputs_of}
use Rattle.lane.specs.Report.{admitted_by, admitted_of, event_of_admitted}

-- what a lane of this channel is opened with
abbrev pub lane_setup : Setup → ℕ → LaneSetup
lane_setup setup channel = record { channel = channel; rows = setup.sids.items; records = setup.flows.items }

-- the inputs that came on this channel
abbrev pub inputs_on : Lists → ℕ → List Input
inputs_on lists channel = slice_index_or (map (λ inputs. inputs.items) lists.inputs) channel []

-- all that comes in: the inputs of each channel, and the decisions
pub record Incoming : Type 0 where
  pub inputs : ℕ → List Input
  pub decisions : List Decision

-- and what these lists have of it
abbrev pub incoming_of : Lists → Incoming
incoming_of lists = record { inputs = inputs_on lists; decisions = lists.decisions.items }

-- what the sources of the four channels give, and the decisions
abbrev pub incoming_from : List (List Input) → List Decision → Incoming
incoming_from inputs decisions = record { inputs = λ channel. slice_index_or inputs channel []; decisions = decisions }

-- all inputs of a channel, each with its answer
pub record IsLaneOf (setup : Setup) (incoming : Incoming) (channel : ℕ) (answered : List AnsweredInput) : Type 0 where
  pub answers : AreAnswered (lane_setup setup channel) answered
  pub inputs : inputs_of answered ≡ incoming.inputs channel

-- all inputs of the four channels, each with its answer
abbrev pub AreLanesOf : Setup → Incoming → (ℕ → List AnsweredInput) → Type 0
AreLanesOf setup incoming answered = (channel : ℕ) → channel < channel_limit → IsLaneOf setup incoming channel (answered channel)

-- the items of a sender, in order: what was admitted on a channel, 0 to 3, or the decisions that
-- name a flow, 4
abbrev pub items_of : Setup → Incoming → (ℕ → List AnsweredInput) → ℕ → List Event
items_of setup incoming answered sender =
    if nat_lt sender channel_limit then map event_of_admitted (admitted_of (answered sender))
    else map event_of_decision (filter (names_a_flow (length setup.flows.items)) incoming.decisions)

-- of each input or decision of a sender, whether it gives an item
abbrev pub are_items : Setup → Incoming → (ℕ → List AnsweredInput) → ℕ → List Bool
are_items setup incoming answered sender =
    if nat_lt sender channel_limit then map (λ one. is_some (admitted_by one.answer)) (answered sender)
    else map (names_a_flow (length setup.flows.items)) incoming.decisions

-- an item that one of so many flows can take
pub record IsItem (flow_count : ℕ) (event : Event) : Type 0 where
  pub flow_exists : flow_of event < flow_count
  pub takable : IsTakable event

-- what happens to flow k, of all items
abbrev pub events_at : ℕ → List Event → List FlowEvent
events_at k items = map event_of (filter (λ event. flow_of event == k) items)
