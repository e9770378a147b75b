-- What comes in to a running receiver of so many channels, and in what order it is taken.
use Rattle.std.specs.Prelude.{◌≡◌, ℕ, ◌<◌, ◌+◌, ◌%◌, nat_lt, All, List, [], length, map, filter, flat_map, slice_index_or, if◌then◌else◌}
use Rattle.flow_records.specs.declared.decision.Decision.{Decision}
use Rattle.flow_records.specs.declared.event.Event.{Event}
use Rattle.flow_records.specs.declared.record.FlowRecord.{FlowRecord}
use Rattle.flow_records.specs.Decisions.{names_a_flow, event_of_decision}
use Rattle.lane.specs.declared.sids.SidRow.{SidRow}
use Rattle.lane.specs.Inputs.{AnsweredInput}
use Rattle.lane.specs.Report.{admitted_of, event_of_admitted}
use Rattle.loss_rule.specs.Rule.{RuledFlow}
use Rattle.bonded_flows.specs.Channels.{channels_within}
use Rattle.receiver.specs.declared.setup.Setup.{Setup}
use Rattle.receiver.specs.Items.{Incoming, IsLaneOf}
use Rattle.receiver.specs.Order.{times_of, picked}
use Rattle.workers.specs.declared.channel_input.ChannelInput.{ChannelInput}
use Rattle.workers.specs.Channels.{given_on, belongs_to}
use Rattle.workers.specs.Inside.Carried.{senders_of}
use Rattle.workers.specs.Inside.Working.{ServedInput, given_as, answers_on, sent_in}

-- What four sources give, and the decisions. A channel belongs to the source whose number it leaves
-- when divided by four: its inputs are those that this source gives on it.
abbrev pub incoming_of_sources : List (List ChannelInput) → List Decision → Incoming
incoming_of_sources sources decisions =
    record { inputs = λ channel. given_on channel (slice_index_or sources (channel % 4) []); decisions = decisions }

-- all inputs of so many channels, each with its answer
abbrev pub AreLanesWithin : ℕ → Setup → Incoming → (ℕ → List AnsweredInput) → Type 0
AreLanesWithin channels setup incoming answered = (channel : ℕ) → channel < channels → IsLaneOf setup incoming channel (answered channel)

-- The items of a sender, in order: what was admitted on a channel, or, where the sender is the
-- number of channels, the decisions that name a flow.
abbrev pub items_within : ℕ → Setup → Incoming → (ℕ → List AnsweredInput) → ℕ → List Event
items_within channels setup incoming answered sender =
    if nat_lt sender channels then map event_of_admitted (admitted_of (answered sender))
    else map event_of_decision (filter (names_a_flow (length setup.flows.items)) incoming.decisions)

-- Lists of so many senders in one order: each place has a sender and an item, and the items of each
-- sender are its list, in its order.
pub record IsMergeWithin (senders : ℕ) (lists : ℕ → List Event) (order : List ℕ) (items : List Event) : Type 0 where
  pub named : All (λ tag. tag < senders) order
  pub paired : length order ≡ length items
  pub lists_are : (sender : ℕ) → sender < senders → picked sender order items ≡ lists sender

-- What is taken of what comes in on so many channels, in this order: each input has its answer, and
-- the items of the channels and the decisions that name a flow are taken in this order.
pub record IsIntakeWithin (channels : ℕ) (setup : Setup) (incoming : Incoming) (order : List ℕ) : Type 0 where
  pub answered : ℕ → List AnsweredInput
  pub lanes : AreLanesWithin channels setup incoming answered
  pub items : List Event
  pub merged : IsMergeWithin (channels + 1) (items_within channels setup incoming answered) order items

-- A lawful order of the lists of so many senders: each place names a sender, and each sender stands
-- in it as often as its list has items.
pub record IsLawfulWithin (senders : ℕ) (lists : ℕ → List Event) (order : List ℕ) : Type 0 where
  pub named : All (λ tag. tag < senders) order
  pub whole : (sender : ℕ) → sender < senders → times_of sender order ≡ length (lists sender)

-- what the rule has to know of a flow, where there are so many channels
abbrev pub ruled_within : ℕ → List SidRow → ℕ → FlowRecord → RuledFlow
ruled_within channels rows flow flow_record =
    record { first = flow_record.first; width = flow_record.window; channels = channels_within channels rows flow }

-- What each source gave is taken in the order in which the source gave it, also between its
-- channels: of each source there are the inputs of its own channels, as it gave them, each with its
-- answer, and the order names its channels as these admit a segment, one after another.
pub record ComesInTurn (channels : ℕ) (setup : Setup) (sources : List (List ChannelInput)) (incoming : Incoming) (order : List ℕ) : Type 0 where
  pub served : ℕ → List ServedInput
  pub inputs_are : (source : ℕ) → source < 4 → map given_as (served source) ≡ filter (λ one. belongs_to channels source one.channel) (slice_index_or sources source [])
  pub answered : AreLanesWithin channels setup incoming (λ channel. answers_on channel (served (channel % 4)))
  pub in_turn : (source : ℕ) → source < 4 → filter (belongs_to channels source) order ≡ senders_of (flat_map sent_in (served source))
