-- What a running receiver opens, what its threads have done once they have returned, and what is
-- concluded from it.
use Rattle.std.specs.Prelude.{◌≡◌, ℕ, ◌<◌, ◌≤◌, ◌%◌, Bool, true, false, IsTrue, Option, Some, None, is_some, List, [], ◌∷◌, All, IfSome, map, length, slice_get, slice_index_or, Vec}
use Rattle.std.specs.declared.alloc.Global.{Global}
use Rattle.mailbox.specs.Ports.{closed_posted}
use Rattle.mailbox.specs.Mouths.{places, taken, ended}
use Rattle.mailbox.specs.Settling.{closed_addresses}
use Rattle.mailbox.specs.declared.settling.ClosedPorts.{ClosedPorts}
use Rattle.delivery.specs.Feeders.{feeder_ring, closed_ring, closed_offered}
use Rattle.delivery.specs.Takers.{taker_ring, is_closed}
use Rattle.delivery.specs.Takers as takers
use Rattle.delivery.specs.declared.feeder.ClosedFeeder.{ClosedFeeder}
use Rattle.delivery.specs.declared.taker.Taker.{Taker}
use Rattle.lane.specs.declared.admitted.Request.{Request}
use Rattle.flow_records.specs.declared.decision.Decision.{Decision}
use Rattle.lane.specs.declared.lane.Lane.{Lane}
use Rattle.lane.specs.Limits.{senders}
use Rattle.lane.specs.Inputs.{AnsweredInput}
use Rattle.loss_rule.specs.declared.rule.LossRule.{LossRule}
use Rattle.consumer.specs.declared.given.Given.{Given}
use Rattle.bonded_flows.specs.Table.{IsInUse}
use Rattle.bonded_flows.specs.Table.{StandsFor as TableStandsFor}
use Rattle.flow_core.specs.declared.counts.FlowCounts.{FlowCounts}
use Rattle.receiver.specs.declared.setup.Setup.{Setup}
use Rattle.receiver.specs.declared.tally.LaneTally.{LaneTally}
use Rattle.receiver.specs.HandedIn.{made_of}
use Rattle.receiver.specs.Items.{Incoming}
use Rattle.workers.specs.declared.channel_input.ChannelInput.{ChannelInput}
use Rattle.workers.specs.declared.consumers.Consumers.{Consumers}
use Rattle.workers.specs.declared.item.Item.{Item}
use Rattle.workers.specs.declared.lane_notes.SourceNotes.{SourceNotes}
use Rattle.workers.specs.declared.strays.Strays.{Strays}
use Rattle.workers.specs.declared.work.Lanes.{Lanes}
use Rattle.workers.specs.Inside.Opening.{AreOpenRings, IsOpenMailbox}
use Rattle.workers.specs.Channels.{belongs_to}
use Rattle.workers.specs.Inside.Working.{owned, is_own, LanesStand, HasPosted, DidLane, DidDecide}
use Rattle.workers.specs.Inside.Consuming.{HaveTakenAll}
use Rattle.workers.specs.Inside.Scheduling.{Sent, given_of, HasTakenAll}
use Rattle.uplink.specs.declared.open.Opened.{Opened}
use Rattle.uplink.specs.declared.finish.Ended.{Ended}
use Rattle.uplink.specs.declared.finish.Concluded.{Concluded}
use Rattle.uplink.specs.declared.finish.FourNotes.{FourNotes}
use Rattle.uplink.specs.declared.finish.Ran.{Ran}
use Rattle.uplink.specs.declared.receiving.Received.{Received}
use Rattle.uplink.specs.Channels.{incoming_of_sources, ComesInTurn}
use Rattle.uplink.specs.Received.{WereGiven, IsAnswerBy, GivesTheFirst, AreStraysOfSources}
use Rattle.uplink.specs.declared.assembler.Assembled.{Assembled}
use Rattle.uplink.specs.Inside.Feeding.{IsClosedAfter}
use Rattle.uplink.specs.Inside.Offering.{HasOrder, HasAssembled, HasAssembledFirst}

-- of so many channels the lanes are there that belong to this source, and they stand for no inputs
pub record AreOpenLanesOf (channels source : ℕ) (setup : Setup) (lanes : List (Option Lane)) : Type 0 where
  pub count : length lanes ≡ channels
  pub own : (channel : ℕ) → is_own (owned lanes) channel ≡ belongs_to channels source channel
  pub stand : LanesStand setup.sids.items setup.flows.items lanes []

pub record AreOpenLanes (channels : ℕ) (setup : Setup) (lanes : Lanes) : Type 0 where
  pub l0 : AreOpenLanesOf channels 0 setup lanes.l0.items
  pub l1 : AreOpenLanesOf channels 1 setup lanes.l1.items
  pub l2 : AreOpenLanesOf channels 2 setup lanes.l2.items
  pub l3 : AreOpenLanesOf channels 3 setup lanes.l3.items

-- what a receiver of so many channels, this setup and this rule needs before its workers start
pub record IsOpened {C : Type 0} (accepts : C → List ℕ → Bool) (accepted : List ℕ → Bool) (channels : ℕ) (rule : LossRule) (setup : Setup) (opened : Opened C) : Type 0 where
  pub channels_are : opened.channels ≡ channels
  pub lanes : AreOpenLanes channels setup opened.lanes
  pub flows : TableStandsFor accepts opened.flows accepted (made_of rule channels setup) [] []
  pub in_use : IsInUse accepts opened.flows
  pub rings : AreOpenRings setup.flows.items opened.rings
  pub none_closed : opened.closed.items ≡ []
  pub room : length setup.flows.items ≤ opened.closed.cap
  pub arrivals : IsOpenMailbox setup.mailbox opened.arrivals
  pub requests : IsOpenMailbox setup.mailbox opened.requests

-- what can be started: the flows are in use, and there is room for each feeder once it is closed
pub record CanStart {C : Type 0} (accepts : C → List ℕ → Bool) (opened : Opened C) : Type 0 where
  pub in_use : IsInUse accepts opened.flows
  pub none_closed : opened.closed.items ≡ []
  pub room : length opened.rings.feeders.items ≤ opened.closed.cap

-- All threads of a receiver have returned: the workers of the four sources have taken these inputs,
-- the decisions' worker these decisions, the worker of requests these requests, which are all, and
-- the worker of frames these frames, which are all; and the assembler has taken all items, or the
-- first ones, if an allocation failed.
pub record HasEnded {C N : Type 0} (are_of : List AnsweredInput → N → Type 0) (accepts : C → List ℕ → Bool) (channels flow_count : ℕ) (sources : List (List ChannelInput)) (decisions : List Decision) (opened : Opened C) (kept : Option (Vec ℕ Global)) (frames : List Given) (sent : List Sent) (end : Ended N) : Type 0 where
  pub l0 : DidLane are_of opened.lanes.l0.items opened.arrivals.ports.p0 opened.requests.ports.p0 (slice_index_or sources 0 []) end.done.l0
  pub l1 : DidLane are_of opened.lanes.l1.items opened.arrivals.ports.p1 opened.requests.ports.p1 (slice_index_or sources 1 []) end.done.l1
  pub l2 : DidLane are_of opened.lanes.l2.items opened.arrivals.ports.p2 opened.requests.ports.p2 (slice_index_or sources 2 []) end.done.l2
  pub l3 : DidLane are_of opened.lanes.l3.items opened.arrivals.ports.p3 opened.requests.ports.p3 (slice_index_or sources 3 []) end.done.l3
  pub decided : DidDecide channels flow_count opened.arrivals.ports.p4 decisions end.done.decided
  pub unused : HasPosted opened.requests.ports.p4 [] end.unused_port
  pub requests_taken : HasTakenAll opened.requests.mouth sent end.done.mouth
  pub frames_taken : HaveTakenAll opened.rings.takers.items frames end.done.takers.items
  pub places_same : places end.mouth ≡ places opened.arrivals.mouth
  pub ended_all : (sender : ℕ) → sender < senders → ended end.mouth sender ≡ true
  pub rings : map closed_ring end.feeders.items ≡ map feeder_ring opened.rings.feeders.items
  pub assembled : IfSome end.assembled (HasAssembled accepts (record { flows = opened.flows; order = kept }) opened.rings.feeders.items
      (taken opened.arrivals.mouth) (taken end.mouth) end.feeders.items)
  pub first : HasAssembledFirst accepts (record { flows = opened.flows; order = kept }) (taken opened.arrivals.mouth) (taken end.mouth)
      (IsClosedAfter opened.rings.feeders.items end.feeders.items)

-- no allocation failed in a source's worker
pub record AllNoted {N : Type 0} (end : Ended N) : Type 0 where
  pub l0 : IsTrue (is_some end.done.l0.notes)
  pub l1 : IsTrue (is_some end.done.l1.notes)
  pub l2 : IsTrue (is_some end.done.l2.notes)
  pub l3 : IsTrue (is_some end.done.l3.notes)

-- All threads have returned, for something that came in so, or came first, if an allocation failed:
-- the requests were given in the order in which they were taken.
pub record HasEndedOn {C N : Type 0} (are_of : List AnsweredInput → N → Type 0) (accepts : C → List ℕ → Bool) (channels flow_count : ℕ) (came_in came_first : List (List ChannelInput) → Incoming → Type 0) (opened : Opened C) (kept : Option (Vec ℕ Global)) (frames requests : List Given) (end : Ended N) : Type 0 where
  pub sources : List (List ChannelInput)
  pub decisions : List Decision
  pub four : length sources ≡ 4
  pub came : AllNoted end → came_in sources (incoming_of_sources sources decisions)
  pub came_so_far : came_first sources (incoming_of_sources sources decisions)
  pub sent : List Sent
  pub requests_are : requests ≡ given_of sent
  pub has_ended : HasEnded are_of accepts channels flow_count sources decisions opened kept frames sent end

-- what each source's worker noted, in the sources' order
abbrev pub in_order : {N : Type 0} → FourNotes N → List (SourceNotes N)
in_order all = all.n0 ∷ all.n1 ∷ all.n2 ∷ all.n3 ∷ []

-- what is noted of a channel, by the worker of the source to which it belongs
abbrev pub notes_on : {N : Type 0} → FourNotes N → ℕ → Option N
notes_on {N} all channel = slice_get (slice_index_or (map (λ (notes : SourceNotes N). notes.lanes.items) (in_order all)) (channel % 4) []) channel

abbrev pub strays_of : {N : Type 0} → FourNotes N → List Strays
strays_of {N} all = map (λ (notes : SourceNotes N). notes.strays) (in_order all)

-- each source's worker noted something of each of so many channels
abbrev pub HaveNotes : {N : Type 0} → ℕ → FourNotes N → Type 0
HaveNotes {N} channels all = (source : ℕ) (notes : SourceNotes N) → slice_get (in_order all) source ≡ Some notes → length notes.lanes.items ≡ channels

-- What was concluded is with what was given the one-thread answer for something that came in so, in
-- some order, which was kept if one was to be kept.
pub record ConcludesAnswer {N : Type 0} (are_of : List AnsweredInput → N → Type 0) (channels : ℕ) (rule : LossRule) (check : List ℕ → Bool) (setup : Setup) (came_in : List (List ChannelInput) → Incoming → Type 0) (kept : Option (Vec ℕ Global)) (frames requests : List Given) (concluded : Concluded N) : Type 0 where
  pub sources : List (List ChannelInput)
  pub incoming : Incoming
  pub came : came_in sources incoming
  pub order : List ℕ
  pub in_turn : ComesInTurn channels setup sources incoming order
  pub ordered : HasOrder kept order concluded.order
  pub answer : IsAnswerBy are_of channels rule check setup incoming order frames requests concluded.counts.items (notes_on concluded.lanes)
  pub have_notes : HaveNotes channels concluded.lanes
  pub strays : AreStraysOfSources channels sources (strays_of concluded.lanes)

-- these counts of flows and of so many channels, and these notes, are what was concluded
pub record AreCountedOf (channels : ℕ) (concluded : Concluded LaneTally) (flows : Vec FlowCounts Global) (lanes : Vec LaneTally Global) (notes : FourNotes LaneTally) : Type 0 where
  pub flows_are : flows ≡ concluded.counts
  pub lane_count : length lanes.items ≡ channels
  pub lanes_are : (channel : ℕ) → channel < channels → slice_get lanes.items channel ≡ notes_on concluded.lanes channel
  pub notes_are : notes ≡ concluded.lanes

-- what was received is what the two made of it that took it, and what was concluded
pub record IsReceivedFrom {F Q : Type 0} (channels : ℕ) (consumers : Consumers F Q) (concluded : Concluded LaneTally) (received : Received F Q) : Type 0 where
  pub consumer_is : received.consumer ≡ consumers.consumer
  pub scheduler_is : received.scheduler ≡ consumers.scheduler
  pub flows_are : received.flows ≡ concluded.counts
  pub lane_count : length received.lanes.items ≡ channels
  pub lanes_are : (channel : ℕ) → channel < channels → slice_get received.lanes.items channel ≡ notes_on concluded.lanes channel
  pub strays_are : received.strays ≡ strays_of concluded.lanes

module _ {F Q N : Type 0} (takes : F → List Given → F → Type 0) (asks : Q → List Given → Q → Type 0) (are_of : List AnsweredInput → N → Type 0) where
  -- What was opened ran: the consumers were given some frames and requests, which are all if the
  -- threads were started. Otherwise both are as they were.
  pub record RanOpened {C : Type 0} (accepts : C → List ℕ → Bool) (channels flow_count : ℕ) (came_in came_first : List (List ChannelInput) → Incoming → Type 0) (opened : Opened C) (kept : Option (Vec ℕ Global)) (consumers : Consumers F Q) (ran : Consumers F Q × Option (Ended N)) : Type 0 where
    pub frames : List Given
    pub requests : List Given
    pub were_given : WereGiven takes asks consumers.consumer consumers.scheduler frames requests ran.0.consumer ran.0.scheduler
    pub has_ended : IfSome ran.1 (HasEndedOn are_of accepts channels flow_count came_in came_first opened kept frames requests)
    pub not_begun : ran.1 ≡ None → (ran.0.consumer ≡ consumers.consumer) × (ran.0.scheduler ≡ consumers.scheduler)

  -- The consumers were given some frames and requests. If all threads began these come first of
  -- what there was to give, and otherwise both are as they were. If no allocation failed they are
  -- with what was counted the one-thread answer for some order, which was kept if one was to be
  -- kept.
  pub record HasRun (channels : ℕ) (rule : LossRule) (check : List ℕ → Bool) (setup : Setup) (came_in came_first : List (List ChannelInput) → Incoming → Type 0) (kept : Option (Vec ℕ Global)) (consumers : Consumers F Q) (ran : Ran F Q N) : Type 0 where
    pub frames : List Given
    pub requests : List Given
    pub were_given : WereGiven takes asks consumers.consumer consumers.scheduler frames requests ran.consumers.consumer ran.consumers.scheduler
    pub first : IsTrue ran.began → (sources : List (List ChannelInput)) × (incoming : Incoming) × came_first sources incoming × GivesTheFirst channels rule check setup incoming frames requests
    pub answers : IfSome ran.concluded (ConcludesAnswer are_of channels rule check setup came_in kept frames requests)
    pub not_begun : ran.began ≡ false → (ran.consumers.consumer ≡ consumers.consumer) × (ran.consumers.scheduler ≡ consumers.scheduler)

-- the closed ports of the two mailboxes
abbrev pub closed_arrivals : {N : Type 0} → Ended N → ClosedPorts Item
closed_arrivals end =
    record { p0 = end.done.l0.arrivals; p1 = end.done.l1.arrivals; p2 = end.done.l2.arrivals; p3 = end.done.l3.arrivals; p4 = end.done.decided }

abbrev pub closed_requests : {N : Type 0} → Ended N → ClosedPorts Request
closed_requests end =
    record { p0 = end.done.l0.requests; p1 = end.done.l1.requests; p2 = end.done.l2.requests; p3 = end.done.l3.requests; p4 = end.unused_port }

-- what each port of a mailbox has posted
abbrev pub all_posted : {T : Type 0} → ClosedPorts T → ℕ → List T
all_posted ports sender =
    slice_index_or (closed_posted ports.p0 ∷ closed_posted ports.p1 ∷ closed_posted ports.p2 ∷ closed_posted ports.p3 ∷ closed_posted ports.p4 ∷ []) sender []

-- Both mailboxes and all rings can be settled: each one's ends belong together, and all were taken.
pub record CanSettle {N : Type 0} (end : Ended N) : Type 0 where
  pub arrivals : closed_addresses (closed_arrivals end) ≡ places end.mouth
  pub requests : closed_addresses (closed_requests end) ≡ places end.done.mouth
  pub arrivals_ended : (sender : ℕ) → sender < senders → ended end.mouth sender ≡ true
  pub requests_ended : (sender : ℕ) → sender < senders → ended end.done.mouth sender ≡ true
  pub rings : map closed_ring end.feeders.items ≡ map taker_ring end.done.takers.items
  pub closed : All (λ taker. is_closed taker ≡ true) end.done.takers.items

-- what is concluded is what was counted and noted
pub record IsConclusionOf {N : Type 0} (end : Ended N) (concluded : Concluded N) : Type 0 where
  pub assembled : Assembled
  pub assembled_is : end.assembled ≡ Some assembled
  pub counts_are : concluded.counts ≡ assembled.counts
  pub order_is : concluded.order ≡ assembled.order
  pub noted0 : end.done.l0.notes ≡ Some concluded.lanes.n0
  pub noted1 : end.done.l1.notes ≡ Some concluded.lanes.n1
  pub noted2 : end.done.l2.notes ≡ Some concluded.lanes.n2
  pub noted3 : end.done.l3.notes ≡ Some concluded.lanes.n3

-- What is known once all is settled: all that was posted and offered was taken, and what is
-- concluded is what was counted and noted.
pub record HasConcluded {N : Type 0} (end : Ended N) (concluded : Option (Concluded N)) : Type 0 where
  pub arrivals : (sender : ℕ) → sender < senders → taken end.mouth sender ≡ all_posted (closed_arrivals end) sender
  pub requests : (sender : ℕ) → sender < senders → taken end.done.mouth sender ≡ all_posted (closed_requests end) sender
  pub frames : (k : ℕ) (feeder : ClosedFeeder) (taker : Taker) → slice_get end.feeders.items k ≡ Some feeder → slice_get end.done.takers.items k ≡ Some taker
      → takers.taken taker ≡ closed_offered feeder
  pub is : IfSome concluded (IsConclusionOf end)
