-- In what order things come from five senders that are handed in: those of the channels 0 to 3, and
-- decisions.
use Rattle.std.specs.Prelude.{◌≡◌, ℕ, ◌<◌, ◌≤◌, ◌==◌, ◌&&◌, nat_lt, Bool, All, Option, Some, None, List, length, map, take, filter, filter_map, is_some, slice_index_or, if◌then◌else◌}
use Rattle.flow_records.specs.declared.decision.Decision.{Decision}
use Rattle.flow_records.specs.declared.event.Event.{Event}
use Rattle.flow_records.specs.declared.event.Event.TheVariants as event
use Rattle.std.specs.Option.{option_map}
use Rattle.lane.specs.Limits.{channel_limit, senders}
use Rattle.lane.specs.Inputs.{inputs_of}
use Rattle.lane.specs.Report.{admitted_by, event_of_admitted}
use Rattle.bonded_flows.specs.declared.decision.FlowDecision.{FlowDecision}
use Rattle.bonded_flows.specs.declared.decision.FlowDecision.TheVariants.{Gap, GapTo, SkipTo}
use Rattle.bonded_flows.specs.ByRule.{is_in_range}
use Rattle.receiver.specs.Items.{Incoming}
use Rattle.receiver.specs.HandedIn.{HandedIn, came, decided, restarted, answered_on}

-- its sender: its channel, or the sender of decisions
abbrev pub sender_of : HandedIn → ℕ
sender_of (came channel one) = channel
sender_of (decided flow decision) = channel_limit
sender_of (restarted flow first) = channel_limit

-- it is an input of one of the four channels, or a decision
abbrev pub IsSent : HandedIn → Type 0
IsSent (came channel one) = channel < channel_limit
IsSent (decided flow decision) = Unit {0}
IsSent (restarted flow first) = ⊥

-- what a decision is to its flow
abbrev pub event_decided : ℕ → FlowDecision → Event
event_decided flow Gap = event.Gap flow
event_decided flow (GapTo number) = event.GapTo flow number
event_decided flow (SkipTo number) = event.SkipTo flow number

-- the item that it gives where there are so many flows: the segment that is admitted, or a decision
-- that names a flow and no number above 8191
abbrev pub item_in : ℕ → HandedIn → Option Event
item_in flow_count (came channel one) = option_map event_of_admitted (admitted_by one.answer)
item_in flow_count (decided flow decision) = if nat_lt flow flow_count && is_in_range decision then Some (event_decided flow decision) else None
item_in flow_count (restarted flow first) = None

abbrev pub gives_item : ℕ → HandedIn → Bool
gives_item flow_count one = is_some (item_in flow_count one)

-- the items, and the sender of each, in order
abbrev pub items_in : ℕ → List HandedIn → List Event
items_in flow_count handed = filter_map (item_in flow_count) handed

abbrev pub order_of : ℕ → List HandedIn → List ℕ
order_of flow_count handed = map sender_of (filter (gives_item flow_count) handed)

-- what came from this sender
abbrev pub handed_by : ℕ → List HandedIn → List HandedIn
handed_by sender handed = filter (λ one. sender == sender_of one) handed

-- a decision that is handed in
abbrev pub flow_decision : Option ℕ → FlowDecision
flow_decision None = Gap
flow_decision (Some number) = GapTo number

abbrev pub handed_decision : Decision → HandedIn
handed_decision decision = decided decision.flow (flow_decision decision.upto)

-- Of each sender's list so much was handed in as its place says, in order, and nothing else.
pub record IsHandedFrom (incoming : Incoming) (places : List ℕ) (handed : List HandedIn) : Type 0 where
  pub five : length places ≡ senders
  pub sent : All IsSent handed
  pub inputs : (channel : ℕ) → channel < channel_limit
      → inputs_of (answered_on channel handed) ≡ take (slice_index_or places channel 0) (incoming.inputs channel)
  pub decisions : handed_by channel_limit handed ≡ map handed_decision (take (slice_index_or places channel_limit 0) incoming.decisions)

-- how many inputs or decisions a sender has
abbrev pub count_from : Incoming → ℕ → ℕ
count_from incoming sender = if nat_lt sender channel_limit then length (incoming.inputs sender) else length incoming.decisions

-- nothing is left of its list
abbrev pub IsUsedUp : Incoming → List ℕ → ℕ → Type 0
IsUsedUp incoming places sender = count_from incoming sender ≤ slice_index_or places sender 0
