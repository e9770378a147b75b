-- What items are to the flows.
use Rattle.std.specs.Prelude.{ℕ, List, map}
use Rattle.flow_records.specs.declared.event.Event.{Event}
use Rattle.workers.specs.declared.item.Item.{Item}

-- an event, with who sends it: a channel, or, of a decision, the number of channels
pub record SentEvent : Type 0 where
  pub sender : ℕ
  pub event : Event

-- the events of these items and who sends them, in their order
abbrev pub carried : List Item → List SentEvent
carried items = map (λ item. record { sender = item.sender; event = item.event }) items

-- these events, all sent by one
abbrev pub sent_by : ℕ → List Event → List SentEvent
sent_by sender events = map (λ event. record { sender = sender; event = event }) events

-- who sends them, and the events
abbrev pub senders_of : List SentEvent → List ℕ
senders_of all = map (λ one. one.sender) all

abbrev pub events_of : List SentEvent → List Event
events_of all = map (λ one. one.event) all
