-- What a receiver on threads gave to its consumer and its scheduler as it ran, and what it counted.
use Rattle.std.specs.Prelude.{◌≡◌, ℕ, ◌<◌, ◌≤◌, ◌+◌, Bool, false, All, IsTrue, Option, Some, List, [], ◌∷◌, length, slice_get}
use Rattle.docsis_wire.specs.declared.segment.Segment.{Segment}
use Rattle.docsis_wire.specs.Cut.{IsLawfulCut}
use Rattle.flow_records.specs.declared.record.FlowRecord.{FlowRecord}
use Rattle.flow_core.specs.declared.counts.FlowCounts.{FlowCounts}
use Rattle.flow_core.specs.Events.{FlowEvent}
use Rattle.flow_core.specs.Fates.{Fates}
use Rattle.flow_core.specs.Near.{AreNear}
use Rattle.flow_records.specs.declared.decision.Decision.{Decision}
use Rattle.flow_records.specs.declared.event.Event.{Event}
use Rattle.lane.specs.Inputs.{AnsweredInput}
use Rattle.lane.specs.Report.{requests_of}
use Rattle.loss_rule.specs.declared.rule.LossRule.{LossRule}
use Rattle.loss_rule.specs.Rule.{Coming, RuledFlow, Lasts, AreRuled}
use Rattle.consumer.specs.declared.given.Given.{Given}
use Rattle.consumer.specs.Given.{frames_of, requests_given}
use Rattle.receiver.specs.declared.setup.Setup.{Setup}
use Rattle.receiver.specs.Items.{Incoming}
use Rattle.receiver.specs.Order.{picked}
use Rattle.receiver.specs.Outcome.{GivesAtItsClose}
use Rattle.receiver.specs.Ruled.{comings_at}
use Rattle.receiver.specs.Tallies.{IsTallyOf}
use Rattle.workers.specs.declared.channel_input.ChannelInput.{ChannelInput}
use Rattle.workers.specs.declared.strays.Strays.{Strays}
use Rattle.workers.specs.Channels.{AreStraysOf, belongs_to}
use Rattle.workers.specs.Given.{BecameBy}
use Rattle.uplink.specs.Channels.{incoming_of_sources, AreLanesWithin, items_within, IsIntakeWithin, IsLawfulWithin, ComesInTurn, ruled_within}
use Rattle.uplink.specs.declared.faults.RunFault.TheVariants.{OutOfMemory}
use Rattle.uplink.specs.declared.receiving.Received.{Received}
use Rattle.uplink.specs.declared.receiving.ReceiveError.{ReceiveError}
use Rattle.uplink.specs.Fronts.{ComesFirstIn}
use Rattle.uplink.specs.Headline.{TookTheDeliverySequence, TookAFront}

-- What came in is what the four sources, and the decisions, gave. The sources gave these inputs.
pub record CameFrom (g0 g1 g2 g3 : List ChannelInput → Type 0) (decided : List Decision → Type 0) (sources : List (List ChannelInput)) (incoming : Incoming) : Type 0 where
  pub i0 : List ChannelInput
  pub i1 : List ChannelInput
  pub i2 : List ChannelInput
  pub i3 : List ChannelInput
  pub decisions : List Decision
  pub sources_are : sources ≡ i0 ∷ i1 ∷ i2 ∷ i3 ∷ []
  pub incoming_is : incoming ≡ incoming_of_sources sources decisions
  pub gave0 : g0 i0
  pub gave1 : g1 i1
  pub gave2 : g2 i2
  pub gave3 : g3 i3
  pub gave_decisions : decided decisions

-- each frame is of one of so many flows, and nothing else is given
pub record AreFramesOf (flow_count : ℕ) (frames : List Given) : Type 0 where
  pub of_flows : (k : ℕ) → flow_count ≤ k → frames_of k frames ≡ []
  pub no_request : (channel : ℕ) → requests_given channel frames ≡ []

-- each request came on one of so many channels, and nothing else is given
pub record AreRequests (channels : ℕ) (requests : List Given) : Type 0 where
  pub of_channels : (channel : ℕ) → channels ≤ channel → requests_given channel requests ≡ []
  pub no_frame : (k : ℕ) → frames_of k requests ≡ []

-- what a flow gave and counted that took the events which by this rule came of all that came to it,
-- and was closed
pub record IsGivenByRule (rule : LossRule) (check : List ℕ → Bool) (flow : RuledFlow) (flow_record : FlowRecord) (comings : List Coming) (frames : List (List ℕ)) (counts : FlowCounts) : Type 0 where
  pub events : List FlowEvent
  pub lasts : Lasts
  pub fates : Fates
  pub ruled : AreRuled rule flow comings events lasts fates
  pub gives : GivesAtItsClose check flow_record events frames counts

-- The one-thread answer by a rule for what comes in on so many channels, in this order: these
-- frames are given, these requests, these counts of each flow and these notes of each channel,
-- which are of its inputs with their answers.
pub record IsAnswerBy {N : Type 0} (are_of : List AnsweredInput → N → Type 0) (channels : ℕ) (rule : LossRule) (check : List ℕ → Bool) (setup : Setup) (incoming : Incoming) (order : List ℕ) (frames requests : List Given) (counts : List FlowCounts) (notes_on : ℕ → Option N) : Type 0 where
  pub intake : IsIntakeWithin channels setup incoming order
  pub frames_only : AreFramesOf (length setup.flows.items) frames
  pub requests_only : AreRequests channels requests
  pub flow_count : length counts ≡ length setup.flows.items
  pub flows : (k : ℕ) (flow_record : FlowRecord) (count : FlowCounts) → slice_get setup.flows.items k ≡ Some flow_record → slice_get counts k ≡ Some count
      → IsGivenByRule rule check (ruled_within channels setup.sids.items k flow_record) flow_record (comings_at k order intake.items) (frames_of k frames) count
  pub requested : (channel : ℕ) → channel < channels → requests_given channel requests ≡ requests_of (intake.answered channel)
  pub noted : (channel : ℕ) → channel < channels → (notes : N) × (notes_on channel ≡ Some notes) × are_of (intake.answered channel) notes

-- The headline, of what was given for what came in on so many channels, in this order. The order is
-- a lawful one of all that each channel admits and all decisions that name a flow. The frames of
-- each flow are its whole delivery sequence, if the flow's segments are those of one lawful cut of
-- a modem's frames and the events that by the rule come of all that comes to it in that order are
-- near. And the requests of each channel are those of its admitted segments, each once and in their
-- order.
pub record GivesTheHeadline (channels : ℕ) (rule : LossRule) (check : List ℕ → Bool) (setup : Setup) (incoming : Incoming) (order : List ℕ) (frames requests : List Given) : Type 0 where
  pub intake : IsIntakeWithin channels setup incoming order
  pub lawful : IsLawfulWithin (channels + 1) (items_within channels setup incoming intake.answered) order
  pub delivered : (k fill : ℕ) (flow_record : FlowRecord) (whole chunks : List (List ℕ)) (segments : List Segment)
      (events : List FlowEvent) (lasts : Lasts) (fates : Fates)
      → slice_get setup.flows.items k ≡ Some flow_record
      → AreRuled rule (ruled_within channels setup.sids.items k flow_record) (comings_at k order intake.items) events lasts fates
      → IsLawfulCut check whole flow_record.first fill chunks segments
      → AreNear flow_record.first flow_record.window segments events
      → TookTheDeliverySequence whole chunks flow_record events (frames_of k frames)
  pub requested : (channel : ℕ) → channel < channels → requests_given channel requests ≡ requests_of (intake.answered channel)

-- What was given where an allocation failed, for this that came in first: of each sender the first
-- of its items were taken, in some order. The frames of each flow come first in its delivery
-- sequence, if its segments are those of one lawful cut of a modem's frames and its events in that
-- order are near; and the requests of each channel are those of its admitted segments, each once
-- and in their order. Nothing else was given.
pub record GivesTheFirst (channels : ℕ) (rule : LossRule) (check : List ℕ → Bool) (setup : Setup) (incoming : Incoming) (frames requests : List Given) : Type 0 where
  pub answered : ℕ → List AnsweredInput
  pub lanes : AreLanesWithin channels setup incoming answered
  pub order : List ℕ
  pub items : List Event
  pub named : All (λ tag. tag < channels + 1) order
  pub paired : length order ≡ length items
  pub fronts : (sender : ℕ) → sender < channels + 1 → ComesFirstIn (picked sender order items) (items_within channels setup incoming answered sender)
  pub frames_only : AreFramesOf (length setup.flows.items) frames
  pub requests_only : AreRequests channels requests
  pub delivered : (k fill : ℕ) (flow_record : FlowRecord) (whole chunks : List (List ℕ)) (segments : List Segment)
      (events : List FlowEvent) (lasts : Lasts) (fates : Fates)
      → slice_get setup.flows.items k ≡ Some flow_record
      → AreRuled rule (ruled_within channels setup.sids.items k flow_record) (comings_at k order items) events lasts fates
      → IsLawfulCut check whole flow_record.first fill chunks segments
      → AreNear flow_record.first flow_record.window segments events
      → TookAFront whole chunks flow_record events (frames_of k frames)
  pub requested : (channel : ℕ) → channel < channels → requests_given channel requests ≡ requests_of (answered channel)

-- of each source, how many of its inputs were of channels that aren't its own
abbrev pub AreStraysOfSources : ℕ → List (List ChannelInput) → List Strays → Type 0
AreStraysOfSources channels sources strays =
    (source : ℕ) (inputs : List ChannelInput) (counts : Strays) → slice_get sources source ≡ Some inputs → slice_get strays source ≡ Some counts
    → AreStraysOf channels (belongs_to channels source) inputs counts

module _ {F Q : Type 0} (takes : F → List Given → F → Type 0) (asks : Q → List Given → Q → Type 0) where
  -- the consumer was given these frames, and the scheduler these requests, and nothing else
  pub record WereGiven (consumer : F) (scheduler : Q) (frames requests : List Given) (consumer' : F) (scheduler' : Q) : Type 0 where
    pub consumer_became : BecameBy takes consumer frames consumer'
    pub scheduler_became : BecameBy asks scheduler requests scheduler'

  -- **What was received**: for some lawful order of what came in, in which the items of each source
  -- stand as it gave them, what the two were given keeps the headline, and is with what was counted
  -- the one-thread answer.
  pub record HasReceived (channels : ℕ) (rule : LossRule) (check : List ℕ → Bool) (setup : Setup) (came_in : List (List ChannelInput) → Incoming → Type 0) (consumer : F) (scheduler : Q) (received : Received F Q) : Type 0 where
    pub sources : List (List ChannelInput)
    pub incoming : Incoming
    pub came : came_in sources incoming
    pub order : List ℕ
    pub in_turn : ComesInTurn channels setup sources incoming order
    pub frames : List Given
    pub requests : List Given
    pub were_given : WereGiven consumer scheduler frames requests received.consumer received.scheduler
    pub headline : GivesTheHeadline channels rule check setup incoming order frames requests
    pub answer : IsAnswerBy IsTallyOf channels rule check setup incoming order frames requests received.flows.items (slice_get received.lanes.items)
    pub lane_count : length received.lanes.items ≡ channels
    pub strays : AreStraysOfSources channels sources received.strays

  -- Both come back with a fault. Where the setup can't be run the threads didn't begin, and they
  -- are as they were handed in. Where the threads began they were given what comes first.
  pub record GivesBack (channels : ℕ) (rule : LossRule) (check : List ℕ → Bool) (setup : Setup) (came_first : List (List ChannelInput) → Incoming → Type 0) (consumer : F) (scheduler : Q) (error : ReceiveError F Q) : Type 0 where
    pub frames : List Given
    pub requests : List Given
    pub were_given : WereGiven consumer scheduler frames requests error.consumer error.scheduler
    pub first : IsTrue error.began → (sources : List (List ChannelInput)) × (incoming : Incoming) × came_first sources incoming × GivesTheFirst channels rule check setup incoming frames requests
    pub untouched : ¬ (error.fault ≡ OutOfMemory) → (error.began ≡ false) × (error.consumer ≡ consumer) × (error.scheduler ≡ scheduler)

-- Where the threads did not begin, since the setup can't be run or not all of them could be
-- started, both are as they were handed in: nothing was given to them.
abbrev pub AreUntouched : {F Q : Type 0} → F → Q → ReceiveError F Q → Type 0
AreUntouched consumer scheduler error = error.began ≡ false → (error.consumer ≡ consumer) × (error.scheduler ≡ scheduler)
