-- What is known of a running receiver before its start, after its end, and of what it gave.
use Rattle.std.proofs.Common.{◌≡◌, ℕ, ◌<◌, ◌≤◌, ◌+◌, ◌%◌, ◌==◌, ◌&&◌, nat_lt, ⊎_elim, Bool, true, false, Option, Some, None, IfSome, All, List, [], ◌∷◌, ◌++◌, map, filter, filter_map, flat_map, length, get_or, slice_get, slice_index_or, if◌then◌else◌, Vec, Global, refl, sym, ap, subst, ◌∙◌, append_assoc, arith}
use Rattle.std.proofs.lemmas.Bool.{cases_lt, lt-ltb, le-ltb, eq-eqb, ne_eqb, eqb-true, and_parts}
use Rattle.std.proofs.lemmas.List.{length-map, get_or-map, get_or_past}
use Rattle.std.proofs.lemmas.List.Elements.{All-get_or, All-map, All-weaker, filter_map-append}
use Rattle.std.specs.Option.{option_map}
use Rattle.std.proofs.lemmas.Option.{slice_get_within, slice_get-map, get_or_from_slice_get, same_Some}
use Rattle.docsis_wire.proofs.StreamPlaces.{element_at}
use Rattle.mailbox.specs.Ports.{address, posted, closed_address, closed_posted}
use Rattle.mailbox.specs.Mouths.{taken}
use Rattle.mailbox.specs.Openings.{addresses}
use Rattle.mailbox.specs.Settling.{closed_addresses}
use Rattle.mailbox.specs.declared.port.Port.{Port}
use Rattle.mailbox.specs.declared.port.ClosedPort.{ClosedPort}
use Rattle.mailbox.specs.declared.opening.Ports.{Ports}
use Rattle.mailbox.specs.declared.settling.ClosedPorts.{ClosedPorts}
use Rattle.delivery.specs.Feeders.{feeder_ring, offered, closed_ring, closed_offered}
use Rattle.delivery.specs.Takers.{taker_ring}
use Rattle.delivery.specs.Takers as takers
use Rattle.delivery.specs.declared.feeder.Feeder.{Feeder}
use Rattle.delivery.specs.declared.feeder.ClosedFeeder.{ClosedFeeder}
use Rattle.delivery.specs.declared.taker.Taker.{Taker}
use Rattle.flow_core.specs.declared.counts.FlowCounts.{FlowCounts}
use Rattle.flow_records.specs.declared.decision.Decision.{Decision}
use Rattle.flow_records.specs.declared.event.Event.{Event}
use Rattle.flow_records.specs.declared.record.FlowRecord.{FlowRecord}
use Rattle.flow_records.specs.Decisions.{event_of_decision, names_a_flow}
use Rattle.lane.specs.Inputs.{AnsweredInput}
use Rattle.lane.specs.Limits.{channel_limit, senders}
use Rattle.lane.specs.Report.{admitted_of, requests_of, event_of_admitted}
use Rattle.docsis_wire.specs.declared.segment.Segment.{Segment}
use Rattle.docsis_wire.specs.Cut.{IsLawfulCut}
use Rattle.flow_core.specs.Events.{FlowEvent}
use Rattle.flow_core.specs.Fates.{Fates}
use Rattle.flow_core.specs.Near.{AreNear}
use Rattle.loss_rule.specs.Rule.{Coming, Lasts, AreRuled}
use Rattle.loss_rule.specs.declared.rule.LossRule.{LossRule}
use Rattle.consumer.specs.declared.given.Given.{Given}
use Rattle.consumer.specs.Given.{frames_of, requests_given}
use Rattle.bonded_flows.specs.ByRule.{GaveByRule}
use Rattle.bonded_flows.specs.declared.flow_slot.FlowSlot.{FlowSlot}
use Rattle.bonded_flows.specs.declared.flow_table.FlowTable.{FlowTable}
use Rattle.bonded_flows.specs.FlowSetup.{FlowSetup}
use Rattle.bonded_flows.specs.FlowSetup as flow-setup
use Rattle.bonded_flows.specs.Parts.{FlowInput, Part, comes, begun_at, GaveInParts}
use Rattle.bonded_flows.specs.Slots.{PartStands, SlotStands}
use Rattle.bonded_flows.specs.Table.{TableSetup, flow_setup, inputs_at}
use Rattle.receiver.specs.declared.setup.Setup.{Setup}
use Rattle.receiver.specs.HandedIn.{made_of}
use Rattle.receiver.specs.Items.{Incoming}
use Rattle.receiver.specs.Order.{picked}
use Rattle.receiver.specs.Received.{GaveAllParts}
use Rattle.receiver.specs.Ruled.{comings_at}
use Rattle.receiver.specs.TakenInOrder.{table_inputs}
use Rattle.receiver.proofs.Senders.{four}
use Rattle.receiver.proofs.ClosedFlows.{still-open}
use Rattle.receiver.proofs.TakenInOrder.{inputs-come, one-part_over, one-part_last, one-part_gave}
use Rattle.workers.specs.declared.channel_input.ChannelInput.{ChannelInput}
use Rattle.workers.specs.declared.item.Item.{Item}
use Rattle.workers.specs.declared.lane_notes.SourceNotes.{SourceNotes}
use Rattle.workers.specs.declared.strays.Strays.{Strays}
use Rattle.workers.specs.Channels.{belongs_to, AreStraysOf}
use Rattle.workers.specs.Inside.Carried.{SentEvent, carried, sent_by, senders_of, events_of}
use Rattle.workers.specs.Inside.Consuming.{taken_of}
use Rattle.workers.specs.Inside.Scheduling.{Sent, given_of, requests_from}
use Rattle.workers.specs.Inside.Working.{ServedInput, answers_on, sent_in, asked_in, HasPosted, HasSent}
use Rattle.uplink.specs.declared.open.Opened.{Opened}
use Rattle.uplink.specs.declared.finish.Ended.{Ended}
use Rattle.uplink.specs.declared.finish.Concluded.{Concluded}
use Rattle.uplink.specs.declared.finish.FourNotes.{FourNotes}
use Rattle.uplink.specs.declared.assembler.Assembled.{Assembled}
use Rattle.uplink.specs.Fronts.{ComesFirstIn}
use Rattle.uplink.specs.Headline.{TookAFront}
use Rattle.uplink.specs.Channels.{incoming_of_sources, AreLanesWithin, items_within, IsMergeWithin, ComesInTurn, ruled_within}
use Rattle.uplink.specs.Received.{AreFramesOf, AreRequests, IsGivenByRule, IsAnswerBy, AreStraysOfSources, GivesTheFirst}
use Rattle.uplink.specs.Inside.Feeding.{offered_to, IsClosedAfter}
use Rattle.uplink.specs.Inside.Offering.{HasOrder, HaveClosed, HasAssembledFirst, HasAssembled}
use Rattle.uplink.specs.Inside.Running.{IsOpened, HasEnded, CanSettle, HasConcluded, IsConclusionOf, in_order, notes_on, strays_of, HaveNotes, ConcludesAnswer, closed_arrivals, closed_requests, all_posted}
use Rattle.uplink.proofs.ChannelsInTurn.{own_sender, own-senders, foreign-by, all-own, none-own, served-own}
use Rattle.uplink.proofs.FramesOffered.{offered-there}
use Rattle.uplink.proofs.RequestsByChannel.{no-frame, picked-of-port, given-requests}
use Rattle.uplink.proofs.SourcesServed.{event_from, events_from, request_for, requests_for, seen-of-port, picked-of-sender, senders-below, events-by, events-admitted, requests-admitted, AreServed, HasDone, on-their-channels, source-done}

-- what a flow has given that is under way, and what one gave that was closed, comes first in its
-- delivery sequence
abbrev pub OpenFlowsGive : Type 0
OpenFlowsGive =
    (check : List ℕ → Bool) (setup : FlowSetup) (slot : FlowSlot) (comings : List Coming) (given frames chunks : List (List ℕ)) (fill : ℕ) (segments : List Segment)
    (events : List FlowEvent) (lasts : Lasts) (fates : Fates)
    → PartStands check setup slot comings given → AreRuled setup.rule (flow-setup.ruled_flow setup) comings events lasts fates
    → IsLawfulCut check frames setup.flow_record.first fill chunks segments → AreNear setup.flow_record.first setup.flow_record.window segments events
    → TookAFront frames chunks setup.flow_record events given

abbrev pub ClosedFlowsGave : Type 0
ClosedFlowsGave =
    (check : List ℕ → Bool) (setup : FlowSetup) (comings : List Coming) (given frames chunks : List (List ℕ)) (counts : FlowCounts) (fill : ℕ)
    (segments : List Segment) (events : List FlowEvent) (lasts : Lasts) (fates : Fates)
    → GaveByRule check setup comings given counts → AreRuled setup.rule (flow-setup.ruled_flow setup) comings events lasts fates
    → IsLawfulCut check frames setup.flow_record.first fill chunks segments → AreNear setup.flow_record.first setup.flow_record.window segments events
    → TookAFront frames chunks setup.flow_record events given

module _ {X : Type 0} (P : X → Type 0) where
  -- what holds of all holds of the one at this place
  all-at : (xs : List X) (k : ℕ) (x : X) → All P xs → slice_get xs k ≡ Some x → P x
  all-at xs k x all at = subst P (get_or_from_slice_get xs k x x at) (All-get_or P xs k x (slice_get_within xs k x at) all)

-- what was taken by a taker that is there
taken-there : (all : List Taker) (k : ℕ) (taker : Taker) → slice_get all k ≡ Some taker → taken_of all k ≡ takers.taken taker
taken-there all k taker there =
    get_or-map takers.taken all k taker [] (slice_get_within all k taker there) ∙ ap takers.taken (get_or_from_slice_get all k taker taker there)

-- and by one that isn't
none-taken-past : (all : List Taker) (k : ℕ) → length all ≤ k → taken_of all k ≡ []
none-taken-past all k past = let long = length-map all takers.taken in get_or_past (map takers.taken all) k [] (omega (arith, long, past))

module _ {T : Type 0} where
  -- a port that had posted nothing has posted these items
  posted-first : (port : Port T) (items : List T) (closed : ClosedPort T) → HasPosted port items closed
      → posted port ≡ [] → closed_posted closed ≡ items
  posted-first port items closed has none = has.posted_is ∙ ap (λ l. l ++ items) none

  -- five ports and what they became are those of one mailbox
  same-addresses : (ports : Ports T) (closed : ClosedPorts T)
      → closed_address closed.p0 ≡ address ports.p0 → closed_address closed.p1 ≡ address ports.p1 → closed_address closed.p2 ≡ address ports.p2
      → closed_address closed.p3 ≡ address ports.p3 → closed_address closed.p4 ≡ address ports.p4 → closed_addresses closed ≡ addresses ports
  same-addresses ports closed a0 a1 a2 a3 a4 =
      ap (λ a. a ∷ closed_address closed.p1 ∷ closed_address closed.p2 ∷ closed_address closed.p3 ∷ closed_address closed.p4 ∷ []) a0
      ∙ ap (λ a. address ports.p0 ∷ a ∷ closed_address closed.p2 ∷ closed_address closed.p3 ∷ closed_address closed.p4 ∷ []) a1
      ∙ ap (λ a. address ports.p0 ∷ address ports.p1 ∷ a ∷ closed_address closed.p3 ∷ closed_address closed.p4 ∷ []) a2
      ∙ ap (λ a. address ports.p0 ∷ address ports.p1 ∷ address ports.p2 ∷ a ∷ closed_address closed.p4 ∷ []) a3
      ∙ ap (λ a. address ports.p0 ∷ address ports.p1 ∷ address ports.p2 ∷ address ports.p3 ∷ a ∷ []) a4

-- a port that had posted nothing has posted items with these events
sent-first : (port : Port Item) (events : List SentEvent) (closed : ClosedPort Item) → HasSent port events closed
    → posted port ≡ [] → carried (closed_posted closed) ≡ events
sent-first port events closed has none = has.sent_is ∙ ap (λ items. carried items ++ events) none

-- what comes first of nothing is nothing
nothing-first : {X : Type 0} (front whole : List X) → whole ≡ [] → ComesFirstIn front whole → front ≡ []
nothing-first [] whole none is = refl
nothing-first (x ∷ front) whole none is = absurd (cc)

module _ {C N : Type 0} (are_of : List AnsweredInput → N → Type 0) (accepts : C → List ℕ → Bool) (accepted : List ℕ → Bool) (channels : ℕ) (rule : LossRule) (setup : Setup) (opened : Opened C)
    (is : IsOpened accepts accepted channels rule setup opened) where
  -- there is a taker for each flow
  takers-counted : length opened.rings.takers.items ≡ length setup.flows.items
  takers-counted =
      sym (length-map opened.rings.takers.items taker_ring) ∙ ap length (sym is.rings.same)
      ∙ length-map opened.rings.feeders.items feeder_ring ∙ is.rings.count_is

  module _ (sources : List (List ChannelInput)) (decisions : List Decision) (kept : Option (Vec ℕ Global)) (frames : List Given) (sent : List Sent) (end : Ended N)
      (has : HasEnded are_of accepts channels (length setup.flows.items) sources decisions opened kept frames sent end) where
    -- what came in
    abbrev incoming : Incoming
    incoming = incoming_of_sources sources decisions

    -- what a source gave
    abbrev given_by : ℕ → List ChannelInput
    given_by source = slice_index_or sources source []

    -- what each source's worker did
    done-0 : HasDone are_of channels 0 setup (given_by 0) opened.arrivals.ports.p0 opened.requests.ports.p0 end.done.l0
    done-0 = source-done are_of channels 0 setup opened.lanes.l0.items (given_by 0) is.lanes.l0 opened.arrivals.ports.p0 opened.requests.ports.p0 end.done.l0 has.l0

    done-1 : HasDone are_of channels 1 setup (given_by 1) opened.arrivals.ports.p1 opened.requests.ports.p1 end.done.l1
    done-1 = source-done are_of channels 1 setup opened.lanes.l1.items (given_by 1) is.lanes.l1 opened.arrivals.ports.p1 opened.requests.ports.p1 end.done.l1 has.l1

    done-2 : HasDone are_of channels 2 setup (given_by 2) opened.arrivals.ports.p2 opened.requests.ports.p2 end.done.l2
    done-2 = source-done are_of channels 2 setup opened.lanes.l2.items (given_by 2) is.lanes.l2 opened.arrivals.ports.p2 opened.requests.ports.p2 end.done.l2 has.l2

    done-3 : HasDone are_of channels 3 setup (given_by 3) opened.arrivals.ports.p3 opened.requests.ports.p3 end.done.l3
    done-3 = source-done are_of channels 3 setup opened.lanes.l3.items (given_by 3) is.lanes.l3 opened.arrivals.ports.p3 opened.requests.ports.p3 end.done.l3 has.l3

    -- there is a closed feeder and a taker for each flow
    feeders-counted : length end.feeders.items ≡ length setup.flows.items
    feeders-counted =
        sym (length-map end.feeders.items closed_ring) ∙ ap length has.rings
        ∙ length-map opened.rings.feeders.items feeder_ring ∙ is.rings.count_is

    takers-left : length end.done.takers.items ≡ length setup.flows.items
    takers-left =
        sym (length-map end.done.takers.items taker_ring) ∙ ap length has.frames_taken.have.rings_are
        ∙ length-map opened.rings.takers.items taker_ring ∙ takers-counted

    -- what was opened can be settled once all threads have returned
    pub can-settle : CanSettle end
    can-settle = record {
      arrivals =
          same-addresses opened.arrivals.ports (closed_arrivals end)
          done-0.arrivals_are.address_is done-1.arrivals_are.address_is
          done-2.arrivals_are.address_is done-3.arrivals_are.address_is has.decided.address_is
          ∙ is.arrivals.same ∙ sym has.places_same;
      requests =
          same-addresses opened.requests.ports (closed_requests end)
          done-0.requests_are.address_is done-1.requests_are.address_is
          done-2.requests_are.address_is done-3.requests_are.address_is has.unused.address_is
          ∙ is.requests.same ∙ sym has.requests_taken.has.places_are;
      arrivals_ended = has.ended_all;
      requests_ended = has.requests_taken.ended_all;
      rings = has.rings ∙ is.rings.same ∙ sym has.frames_taken.have.rings_are;
      closed = has.frames_taken.closed;
    }

    -- what each source's worker answered, and noted
    abbrev served_by : ℕ → List ServedInput
    served_by source = get_or (done-0.served ∷ done-1.served ∷ done-2.served ∷ done-3.served ∷ []) source []

    abbrev noted_by : ℕ → Option (SourceNotes N)
    noted_by source = get_or (end.done.l0.notes ∷ end.done.l1.notes ∷ end.done.l2.notes ∷ end.done.l3.notes ∷ []) source None

    are-served : (source : ℕ) → source < channel_limit → AreServed are_of channels source setup (given_by source) (served_by source) (noted_by source)
    are-served = four (λ source. AreServed are_of channels source setup (given_by source) (served_by source) (noted_by source)) done-0.are done-1.are done-2.are done-3.are

    -- the answers to the inputs of each channel
    abbrev answered : ℕ → List AnsweredInput
    answered channel = answers_on channel (served_by (channel % 4))

    -- a channel belongs to the source whose number it leaves, and to no other
    its-source : (channel : ℕ) → channel < channels → belongs_to channels (channel % 4) channel ≡ true
    its-source channel below = ap (λ b. b && (channel % 4 == channel % 4)) (lt-ltb channel channels below) ∙ eq-eqb (channel % 4) (channel % 4) refl

    not-its-source : (channel source : ℕ) → (source ≡ channel % 4 → ⊥) → belongs_to channels source channel ≡ false
    not-its-source channel source not = either (nat_lt channel channels)
      where
        either : (b : Bool) → (b && (channel % 4 == source)) ≡ false
        either true = ne_eqb (channel % 4) source (λ same. not (sym same))
        either false = refl

    no-source : (channel source : ℕ) → channels ≤ channel → belongs_to channels source channel ≡ false
    no-source channel source past = ap (λ b. b && (channel % 4 == source)) (le-ltb channel channels past)

    -- there are four sources
    source-below : (channel : ℕ) → channel % 4 < channel_limit
    source-below channel = omega arith

    lanes-answered : AreLanesWithin channels setup incoming answered
    lanes-answered channel below =
        let own = its-source channel below in
        let are = are-served (channel % 4) (source-below channel) in
        record { answers = are.answers channel own; inputs = are.inputs_on channel own }

    -- the decisions that name a flow, which the fifth port posted
    abbrev decided : List Event
    decided = map event_of_decision (filter (names_a_flow (length setup.flows.items)) decisions)

    -- what each port posted
    sent-by-source : (source : ℕ) → source < channel_limit → carried (all_posted (closed_arrivals end) source) ≡ flat_map sent_in (served_by source)
    sent-by-source =
        let none = is.arrivals.none_posted in
        let ports = opened.arrivals.ports in
        four (λ source. carried (all_posted (closed_arrivals end) source) ≡ flat_map sent_in (served_by source))
        (sent-first ports.p0 (flat_map sent_in done-0.served) end.done.l0.arrivals done-0.arrivals_are none.p0)
        (sent-first ports.p1 (flat_map sent_in done-1.served) end.done.l1.arrivals done-1.arrivals_are none.p1)
        (sent-first ports.p2 (flat_map sent_in done-2.served) end.done.l2.arrivals done-2.arrivals_are none.p2)
        (sent-first ports.p3 (flat_map sent_in done-3.served) end.done.l3.arrivals done-3.arrivals_are none.p3)

    sent-decided : carried (all_posted (closed_arrivals end) channel_limit) ≡ sent_by channels decided
    sent-decided = sent-first opened.arrivals.ports.p4 (sent_by channels decided) end.done.decided has.decided is.arrivals.none_posted.p4

    -- of one sender
    events-by-source : (sender source : ℕ) → source < channel_limit
        → events_from sender (carried (all_posted (closed_arrivals end) source)) ≡ map event_of_admitted (admitted_of (answers_on sender (served_by source)))
    events-by-source sender source below = ap (events_from sender) (sent-by-source source below) ∙ events-admitted sender (served_by source)

    none-by-source : (sender source : ℕ) → source < channel_limit → belongs_to channels source sender ≡ false
        → events_from sender (carried (all_posted (closed_arrivals end) source)) ≡ []
    none-by-source sender source below foreign =
        events-by-source sender source below ∙ ap (λ (l : List AnsweredInput). map event_of_admitted (admitted_of l)) ((are-served source below).none_on sender foreign)

    events-decided : (sender : ℕ) → events_from sender (carried (all_posted (closed_arrivals end) channel_limit)) ≡ (if sender == channels then decided else [])
    events-decided sender = ap (events_from sender) sent-decided ∙ events-by sender channels decided

    -- the port by which a sender's items are posted: that of its source, or the fifth
    abbrev port_of : ℕ → ℕ
    port_of sender = if nat_lt sender channels then sender % 4 else channel_limit

    port-of-channel : (sender : ℕ) → sender < channels → port_of sender ≡ sender % 4
    port-of-channel sender below = ap (λ b. if b then sender % 4 else channel_limit) (lt-ltb sender channels below)

    port-of-others : (sender : ℕ) → channels ≤ sender → port_of sender ≡ channel_limit
    port-of-others sender past = ap (λ b. if b then sender % 4 else channel_limit) (le-ltb sender channels past)

    port-below : (sender : ℕ) → port_of sender < senders
    port-below sender = either (nat_lt sender channels)
      where
        either : (b : Bool) → (if b then sender % 4 else channel_limit) < senders
        either true = omega arith
        either false = omega arith

    -- by any other it sends nothing
    none-by-port : (sender port : ℕ) → port < senders → (port ≡ port_of sender → ⊥) → events_from sender (carried (all_posted (closed_arrivals end) port)) ≡ []
    none-by-port sender port below not =
        ⊎_elim
        (λ (source : port < channel_limit).
        none-by-source sender port source
        (⊎_elim
        (λ (here : sender < channels). not-its-source sender port (λ same. not (same ∙ sym (port-of-channel sender here))))
        (λ (past : channels ≤ sender). no-source sender port past)
        (cases_lt sender channels)))
        (λ (last : channel_limit ≤ port).
        let fifth : channel_limit ≡ port = omega arith in
        subst (λ p. events_from sender (carried (all_posted (closed_arrivals end) p)) ≡ []) fifth
        (events-decided sender
        ∙ ⊎_elim
        (λ (here : sender < channels). ap (λ b. if b then decided else []) (ne_eqb sender channels (λ same. absurd (omega arith))))
        (λ (past : channels ≤ sender). absurd (not (sym fifth ∙ sym (port-of-others sender past))))
        (cases_lt sender channels)))
        (cases_lt port channel_limit)

    -- and by its own all that it has to send
    items-by-port : (sender : ℕ) → sender < channels + 1
        → events_from sender (carried (all_posted (closed_arrivals end) (port_of sender))) ≡ items_within channels setup incoming answered sender
    items-by-port sender below =
        ⊎_elim
        (λ (here : sender < channels).
        ap (λ p. events_from sender (carried (all_posted (closed_arrivals end) p))) (port-of-channel sender here)
        ∙ events-by-source sender (sender % 4) (source-below sender)
        ∙ ap (λ b. if b then map event_of_admitted (admitted_of (answered sender)) else decided) (sym (lt-ltb sender channels here)))
        (λ (past : channels ≤ sender).
        ap (λ p. events_from sender (carried (all_posted (closed_arrivals end) p))) (port-of-others sender past)
        ∙ events-decided sender
        ∙ ap (λ b. if b then decided else []) (eq-eqb sender channels (omega arith))
        ∙ ap (λ b. if b then map event_of_admitted (admitted_of (answered sender)) else decided) (sym (le-ltb sender channels past)))
        (cases_lt sender channels)

    -- who is no sender sends nothing
    none-past-senders : (sender : ℕ) → channels + 1 ≤ sender → events_from sender (carried (all_posted (closed_arrivals end) (port_of sender))) ≡ []
    none-past-senders sender past =
        ap (λ p. events_from sender (carried (all_posted (closed_arrivals end) p))) (port-of-others sender (omega arith))
        ∙ events-decided sender ∙ ap (λ b. if b then decided else []) (ne_eqb sender channels (λ same. absurd (omega arith)))

    -- who sends what by the port of a source, of its own channels: all that it admits
    abbrev own_turns : ℕ → ℕ → List ℕ
    own_turns source port = filter_map (own_sender (belongs_to channels source)) (carried (all_posted (closed_arrivals end) port))

    all-of-source : (source : ℕ) → source < channel_limit → All (λ (one : ServedInput). belongs_to channels source one.channel ≡ true) (served_by source)
    all-of-source source below = served-own (belongs_to channels source) (served_by source) (given_by source) (are-served source below).inputs_are

    turns-by-source : (source : ℕ) → source < channel_limit → own_turns source source ≡ senders_of (flat_map sent_in (served_by source))
    turns-by-source source below =
        ap (filter_map (own_sender (belongs_to channels source))) (sent-by-source source below)
        ∙ all-own (belongs_to channels source) (served_by source) (all-of-source source below)

    -- and nothing by another port
    of-another-source : (port source channel : ℕ) → (port ≡ source → ⊥) → belongs_to channels port channel ≡ true → belongs_to channels source channel ≡ false
    of-another-source port source channel not is =
        let at : channel % 4 ≡ port = eqb-true (channel % 4) port (and_parts (nat_lt channel channels) (channel % 4 == port) is).1 in
        not-its-source channel source (λ same. not (sym (same ∙ at)))

    no-turns-by : (source port : ℕ) → port < senders → (port ≡ source → ⊥) → own_turns source port ≡ []
    no-turns-by source port below not =
        ⊎_elim
        (λ (here : port < channel_limit).
        ap (filter_map (own_sender (belongs_to channels source))) (sent-by-source port here)
        ∙ none-own (belongs_to channels source) (served_by port)
        (All-weaker (λ (one : ServedInput). belongs_to channels port one.channel ≡ true) (λ (one : ServedInput). belongs_to channels source one.channel ≡ false)
        (λ one is. of-another-source port source one.channel not is) (served_by port) (all-of-source port here)))
        (λ (last : channel_limit ≤ port).
        let fifth : channel_limit ≡ port = omega arith in
        subst (λ p. own_turns source p ≡ []) fifth
        (ap (filter_map (own_sender (belongs_to channels source))) sent-decided
        ∙ foreign-by (belongs_to channels source) channels (no-source channels source (omega arith)) decided))
        (cases_lt port channel_limit)

    -- the requests of each port
    asked-by-source : (source : ℕ) → source < channel_limit → all_posted (closed_requests end) source ≡ flat_map asked_in (served_by source)
    asked-by-source =
        let none = is.requests.none_posted in
        let ports = opened.requests.ports in
        four (λ source. all_posted (closed_requests end) source ≡ flat_map asked_in (served_by source))
        (posted-first ports.p0 (flat_map asked_in done-0.served) end.done.l0.requests done-0.requests_are none.p0)
        (posted-first ports.p1 (flat_map asked_in done-1.served) end.done.l1.requests done-1.requests_are none.p1)
        (posted-first ports.p2 (flat_map asked_in done-2.served) end.done.l2.requests done-2.requests_are none.p2)
        (posted-first ports.p3 (flat_map asked_in done-3.served) end.done.l3.requests done-3.requests_are none.p3)

    -- nothing was posted by the port that no source has
    none-unused : all_posted (closed_requests end) channel_limit ≡ []
    none-unused = posted-first opened.requests.ports.p4 [] end.unused_port has.unused is.requests.none_posted.p4

    requests-by-source : (channel source : ℕ) → source < channel_limit
        → requests_for channel (all_posted (closed_requests end) source) ≡ requests_of (answers_on channel (served_by source))
    requests-by-source channel source below =
        ap (requests_for channel) (asked-by-source source below)
        ∙ requests-admitted channel (served_by source)
        (on-their-channels are_of channels source setup (given_by source) (served_by source) (noted_by source) (are-served source below))

    -- by any other than its port a channel asks for nothing
    none-asked : (channel port : ℕ) → port < senders → (port ≡ port_of channel → ⊥) → requests_for channel (all_posted (closed_requests end) port) ≡ []
    none-asked channel port below not =
        ⊎_elim
        (λ (source : port < channel_limit).
        requests-by-source channel port source
        ∙ ap requests_of ((are-served port source).none_on channel
        (⊎_elim
        (λ (here : channel < channels). not-its-source channel port (λ same. not (same ∙ sym (port-of-channel channel here))))
        (λ (past : channels ≤ channel). no-source channel port past)
        (cases_lt channel channels))))
        (λ (last : channel_limit ≤ port).
        let fifth : channel_limit ≡ port = omega arith in
        subst (λ p. requests_for channel (all_posted (closed_requests end) p) ≡ []) fifth (ap (requests_for channel) none-unused))
        (cases_lt port channel_limit)

    module _ (o : Option (Concluded N)) (settled : HasConcluded end o) where
      -- the requests of each port were taken
      requests-taken : (port : ℕ) → port < senders → picked port (map (λ (s : Sent). s.from) sent) (map (λ (s : Sent). s.request) sent) ≡ all_posted (closed_requests end) port
      requests-taken port below =
          picked-of-port port sent
          ∙ sym (has.requests_taken.has.taken_are port ∙ ap (λ l. l ++ requests_from port sent) (is.requests.none_taken.taken_is port))
          ∙ settled.requests port below

      -- of each channel they are those that its port posted
      given-on-channel : (channel : ℕ) → requests_given channel (given_of sent) ≡ requests_for channel (all_posted (closed_requests end) (port_of channel))
      given-on-channel channel =
          let from = map (λ (s : Sent). s.from) sent in
          let requests = map (λ (s : Sent). s.request) sent in
          given-requests channel sent
          ∙ seen-of-port (request_for channel) (port_of channel) from requests
          (length-map sent (λ (s : Sent). s.from) ∙ sym (length-map sent (λ (s : Sent). s.request)))
          (All-map (λ p. p < senders) (λ (s : Sent). s.from) sent has.requests_taken.has.named)
          (λ other below not. ap (requests_for channel) (requests-taken other below) ∙ none-asked channel other below not)
          ∙ ap (requests_for channel) (requests-taken (port_of channel) (port-below channel))

      -- those of each channel are those that it admitted
      requests-on : (channel : ℕ) → channel < channels → requests_given channel (given_of sent) ≡ requests_of (answered channel)
      requests-on channel below =
          given-on-channel channel ∙ ap (λ p. requests_for channel (all_posted (closed_requests end) p)) (port-of-channel channel below)
          ∙ requests-by-source channel (channel % 4) (source-below channel)

      only-requests : AreRequests channels (given_of sent)
      only-requests = record {
        of_channels = λ channel past.
            given-on-channel channel ∙ ap (λ p. requests_for channel (all_posted (closed_requests end) p)) (port-of-others channel past)
            ∙ ap (requests_for channel) none-unused;
        no_frame = λ k. no-frame k sent;
      }

      -- what was taken of flow k was given
      given-of-flow : (k : ℕ) → taken_of opened.rings.takers.items k ≡ [] → frames_of k frames ≡ taken_of end.done.takers.items k
      given-of-flow k none = sym (has.frames_taken.have.taken_are k ∙ ap (λ l. l ++ frames_of k frames) none)

      none-past : (k : ℕ) → length setup.flows.items ≤ k → frames_of k frames ≡ []
      none-past k past =
          given-of-flow k (none-taken-past opened.rings.takers.items k (let count = takers-counted in omega arith))
          ∙ none-taken-past end.done.takers.items k (let count = takers-left in omega arith)

      only-frames : AreFramesOf (length setup.flows.items) frames
      only-frames = record { of_flows = none-past; no_request = has.frames_taken.have.only_frames }

      -- what was given of a flow is what was offered to its ring
      given-is-offered : (k : ℕ) (closed : ClosedFeeder) (first last : Taker) → slice_get end.feeders.items k ≡ Some closed
          → slice_get opened.rings.takers.items k ≡ Some first → slice_get end.done.takers.items k ≡ Some last → frames_of k frames ≡ closed_offered closed
      given-is-offered k closed first last at_closed at_first at_last =
          let none_taken : taken_of opened.rings.takers.items k ≡ [] =
          taken-there opened.rings.takers.items k first at_first ∙ all-at (λ t. takers.taken t ≡ []) opened.rings.takers.items k first is.rings.none_taken at_first in
          given-of-flow k none_taken ∙ taken-there end.done.takers.items k last at_last ∙ settled.frames k closed last at_closed at_last

      -- what the closed feeder of a flow was offered
      closed-there : (k : ℕ) (closed : ClosedFeeder) → slice_get end.feeders.items k ≡ Some closed
          → slice_index_or (map closed_offered end.feeders.items) k [] ≡ closed_offered closed
      closed-there k closed at_closed =
          get_or-map closed_offered end.feeders.items k closed [] (slice_get_within end.feeders.items k closed at_closed)
          ∙ ap closed_offered (get_or_from_slice_get end.feeders.items k closed closed at_closed)

      -- and nothing was offered before
      none-offered-at : (k : ℕ) (feeder : Feeder) → slice_get opened.rings.feeders.items k ≡ Some feeder → offered_to opened.rings.feeders.items k ≡ []
      none-offered-at k feeder at_feeder =
          offered-there opened.rings.feeders.items k feeder at_feeder ∙ all-at (λ f. offered f ≡ []) opened.rings.feeders.items k feeder is.rings.none_offered at_feeder

      -- none was taken before
      none-carried : (port : ℕ) → carried (taken opened.arrivals.mouth port) ≡ []
      none-carried port = ap carried (is.arrivals.none_taken.taken_is port)

      -- ============ What was given first, whatever failed ============

      abbrev first : HasAssembledFirst accepts (record { flows = opened.flows; order = kept }) (taken opened.arrivals.mouth) (taken end.mouth)
          (IsClosedAfter opened.rings.feeders.items end.feeders.items)
      first = has.first

      abbrev first_order : List ℕ
      first_order = senders_of first.items

      abbrev first_items : List Event
      first_items = events_of first.items

      abbrev made : TableSetup
      made = made_of rule channels setup

      -- the first items of each port were taken
      first-of-port : (port : ℕ) → port < senders → ComesFirstIn (picked port first.ports first.items) (carried (all_posted (closed_arrivals end) port))
      first-of-port port below =
          let front = first.fronts port in (
            front.0,
            sym (ap carried (settled.arrivals port below)) ∙ front.1 ∙ ap (λ l. (l ++ picked port first.ports first.items) ++ front.0) (none-carried port),
          )

      -- of each sender
      front-from : (sender port : ℕ) → port < senders
          → ComesFirstIn (events_from sender (picked port first.ports first.items)) (events_from sender (carried (all_posted (closed_arrivals end) port)))
      front-from sender port below =
          let front = first-of-port port below in
          (events_from sender front.0, ap (events_from sender) front.1 ∙ filter_map-append (event_from sender) (picked port first.ports first.items) front.0)

      first-from : (sender : ℕ) → events_from sender first.items ≡ events_from sender (picked (port_of sender) first.ports first.items)
      first-from sender =
          seen-of-port (event_from sender) (port_of sender) first.ports first.items first.paired first.named
          (λ other below not. let front = front-from sender other below in nothing-first _ _ (none-by-port sender other below not) front)

      first-items : (sender : ℕ) → sender < channels + 1 → ComesFirstIn (picked sender first_order first_items) (items_within channels setup incoming answered sender)
      first-items sender below =
          let front = front-from sender (port_of sender) (port-below sender) in
          let same : events_from sender (picked (port_of sender) first.ports first.items) ≡ picked sender first_order first_items =
          sym (first-from sender) ∙ sym (picked-of-sender sender first.items) in
          (front.0, sym (items-by-port sender below) ∙ front.1 ∙ ap (λ l. l ++ front.0) same)

      first-named : All (λ tag. tag < channels + 1) first_order
      first-named =
          senders-below (channels + 1) first.items
          (λ sender past. first-from sender ∙ nothing-first _ _ (none-past-senders sender past) (front-from sender (port_of sender) (port-below sender)))

      module _ (give_open : OpenFlowsGive) (give_closed : ClosedFlowsGave) (k fill : ℕ) (flow_record : FlowRecord) (whole chunks : List (List ℕ)) (segments : List Segment)
          (events : List FlowEvent) (lasts : Lasts) (fates : Fates) (of_flow : slice_get setup.flows.items k ≡ Some flow_record)
          (ruled : AreRuled rule (ruled_within channels setup.sids.items k flow_record) (comings_at k first_order first_items) events lasts fates)
          (cut : IsLawfulCut accepted whole flow_record.first fill chunks segments)
          (near : AreNear flow_record.first flow_record.window segments events) where
        abbrev own : FlowSetup
        own = flow_setup made k flow_record

        abbrev comings : List Coming
        comings = comings_at k first_order first_items

        abbrev given : List (List ℕ)
        given = frames_of k first.given

        -- the flows at last, some of them closed
        stands : (flows : FlowTable C) × HaveClosed accepts flows accepted made (table_inputs first_order first_items) first.given first.counts
        stands = first.stands accepted made is.flows

        -- a flow that was closed gave all
        closed-gave : (count : FlowCounts) → slice_get first.counts k ≡ Some count → TookAFront whole chunks flow_record events given
        closed-gave count at =
            let parts = stands.1.gave k flow_record count of_flow at in
            give_closed accepted own comings given whole chunks count fill segments events lasts fates
            (one-part_gave accepted own comings given count
            (subst (λ inputs. GaveAllParts accepted own inputs given count) (inputs-come k first_order first_items) parts))
            ruled cut near

        -- one that wasn't gave what it has given so far
        open-gave : length first.counts ≤ k → (slot : FlowSlot) → slice_get stands.0.slots.items k ≡ Some slot → TookAFront whole chunks flow_record events given
        open-gave past slot at =
            let n = length first.counts in
            let history = table_inputs first_order first_items in
            let is_slot : SlotStands accepted own slot (map comes comings) given =
            subst (λ (inputs : List FlowInput). SlotStands accepted own slot inputs given) (still-open n k history past ∙ inputs-come k first_order first_items)
            (stands.1.stands.flows k flow_record slot of_flow at) in
            let nothing : is_slot.earlier ≡ [] =
            subst (λ (parts : List Part). GaveInParts accepted own parts is_slot.earlier) (one-part_over own comings) is_slot.gave in
            let part : PartStands accepted own slot comings is_slot.own =
            subst (λ (part : Part). PartStands accepted (begun_at own part.first) slot part.comings is_slot.own) (one-part_last own comings) is_slot.part in
            subst (TookAFront whole chunks flow_record events) (sym (is_slot.all ∙ ap (λ l. l ++ is_slot.own) nothing))
            (give_open accepted own slot comings is_slot.own whole chunks fill segments events lasts fates part ruled cut near)

        gave-a-front : TookAFront whole chunks flow_record events given
        gave-a-front =
            let within = slice_get_within setup.flows.items k flow_record of_flow in
            let slot = element_at stands.0.slots.items k (let count = stands.1.stands.flow_count in omega arith) in
            ⊎_elim
            (λ (below : k < length first.counts). let count = element_at first.counts k below in closed-gave count.0 count.1)
            (λ (past : length first.counts ≤ k). open-gave past slot.0 slot.1)
            (cases_lt k (length first.counts))

        -- what was given of it to the consumer comes first of that
        first-of-flow : TookAFront whole chunks flow_record events (frames_of k frames)
        first-of-flow =
            let within = slice_get_within setup.flows.items k flow_record of_flow in
            let feeder = element_at opened.rings.feeders.items k (let count = is.rings.count_is in omega arith) in
            let ended = element_at end.feeders.items k (let count = feeders-counted in omega arith) in
            let before = element_at opened.rings.takers.items k (let count = takers-counted in omega arith) in
            let after = element_at end.done.takers.items k (let count = takers-left in omega arith) in
            let front = first.offered k in
            let took = gave-a-front in
            let same : given ≡ frames_of k frames ++ front.0 =
            sym (ap (λ l. l ++ given) (none-offered-at k feeder.0 feeder.1)) ∙ front.1
            ∙ ap (λ l. l ++ front.0) (closed-there k ended.0 ended.1 ∙ sym (given-is-offered k ended.0 before.0 after.0 ended.1 before.1 after.1)) in
            record {
              gaps = took.gaps;
              reached = took.reached;
              reached_is = took.reached_is;
              answers = took.answers;
              fates = took.fates;
              after = took.after;
              sequence = took.sequence;
              sequence_is = took.sequence_is;
              front = (
                front.0 ++ took.front.0,
                took.front.1 ∙ ap (λ l. l ++ took.front.0) same ∙ append_assoc (frames_of k frames) front.0 took.front.0,
              );
            }

      -- so it is what the run gave first
      pub first-given : OpenFlowsGive → ClosedFlowsGave → (requests : List Given) → requests ≡ given_of sent
          → GivesTheFirst channels rule accepted setup incoming frames requests
      first-given give_open give_closed requests same = record {
        answered = answered;
        lanes = lanes-answered;
        order = first_order;
        items = first_items;
        named = first-named;
        paired = length-map first.items (λ (one : SentEvent). one.sender) ∙ sym (length-map first.items (λ (one : SentEvent). one.event));
        fronts = first-items;
        frames_only = only-frames;
        requests_only = subst (AreRequests channels) (sym same) only-requests;
        delivered = first-of-flow give_open give_closed;
        requested = λ channel below. ap (requests_given channel) same ∙ requests-on channel below;
      }

      -- ============ What was given if nothing failed ============

      module _ (concluded : Concluded N) (says : IsConclusionOf end concluded) where
        all : HasAssembled accepts (record { flows = opened.flows; order = kept }) opened.rings.feeders.items
            (taken opened.arrivals.mouth) (taken end.mouth) end.feeders.items says.assembled
        all =
            subst (λ (done : Option Assembled). IfSome done (HasAssembled accepts (record { flows = opened.flows; order = kept }) opened.rings.feeders.items
            (taken opened.arrivals.mouth) (taken end.mouth) end.feeders.items)) says.assembled_is has.assembled

        -- the order in which items were taken, and the items
        abbrev order : List ℕ
        order = senders_of all.items

        abbrev items : List Event
        items = events_of all.items

        -- all items that a port posted were taken
        picked-all : (port : ℕ) → port < senders → picked port all.ports all.items ≡ carried (all_posted (closed_arrivals end) port)
        picked-all port below =
            sym (all.has_collected.taken_is port ∙ ap (λ l. l ++ picked port all.ports all.items) (none-carried port)) ∙ ap carried (settled.arrivals port below)

        -- of each sender
        all-from : (sender : ℕ) → events_from sender all.items ≡ events_from sender (carried (all_posted (closed_arrivals end) (port_of sender)))
        all-from sender =
            seen-of-port (event_from sender) (port_of sender) all.ports all.items all.has_collected.paired all.has_collected.named
            (λ other below not. ap (events_from sender) (picked-all other below) ∙ none-by-port sender other below not)
            ∙ ap (events_from sender) (picked-all (port_of sender) (port-below sender))

        -- so they were merged
        merged : IsMergeWithin (channels + 1) (items_within channels setup incoming answered) order items
        merged = record {
          named = senders-below (channels + 1) all.items (λ sender past. all-from sender ∙ none-past-senders sender past);
          paired = length-map all.items (λ (one : SentEvent). one.sender) ∙ sym (length-map all.items (λ (one : SentEvent). one.event));
          lists_are = λ sender below. picked-of-sender sender all.items ∙ all-from sender ∙ items-by-port sender below;
        }

        -- and each source's channels came in turn
        in-turn : ComesInTurn channels setup sources incoming order
        in-turn = record {
          served = served_by;
          inputs_are = λ source below. (are-served source below).inputs_are;
          answered = lanes-answered;
          in_turn = λ source below.
              let see = own_sender (belongs_to channels source) in
              own-senders (belongs_to channels source) all.items
              ∙ seen-of-port see source all.ports all.items all.has_collected.paired all.has_collected.named
              (λ other within not. ap (filter_map see) (picked-all other within) ∙ no-turns-by source other within not)
              ∙ ap (filter_map see) (picked-all source (omega arith)) ∙ turns-by-source source below;
        }

        -- what was given of a flow is what its ring was offered
        given-as-offered : (k : ℕ) (feeder : Feeder) (closed : ClosedFeeder) (first last : Taker) → slice_get opened.rings.feeders.items k ≡ Some feeder
            → slice_get end.feeders.items k ≡ Some closed → slice_get opened.rings.takers.items k ≡ Some first → slice_get end.done.takers.items k ≡ Some last
            → frames_of k all.has_assembled.given ≡ frames_of k frames
        given-as-offered k feeder closed first last at_feeder at_closed at_first at_last =
            let given = frames_of k all.has_assembled.given in
            sym (given-is-offered k closed first last at_closed at_first at_last
            ∙ sym (closed-there k closed at_closed) ∙ all.has_assembled.offered k ∙ ap (λ l. l ++ given) (none-offered-at k feeder at_feeder))

        -- so each flow gave what comes of all that came to it
        flow-gave : (k : ℕ) (flow_record : FlowRecord) (count : FlowCounts) → slice_get setup.flows.items k ≡ Some flow_record → slice_get says.assembled.counts.items k ≡ Some count
            → IsGivenByRule rule accepted (ruled_within channels setup.sids.items k flow_record) flow_record (comings_at k order items) (frames_of k frames) count
        flow-gave k flow_record count of_flow at_count =
            let within = slice_get_within setup.flows.items k flow_record of_flow in
            let feeder = element_at opened.rings.feeders.items k (let count = is.rings.count_is in omega arith) in
            let closed = element_at end.feeders.items k (let count = feeders-counted in omega arith) in
            let first = element_at opened.rings.takers.items k (let count = takers-counted in omega arith) in
            let last = element_at end.done.takers.items k (let count = takers-left in omega arith) in
            let own = flow_setup (made_of rule channels setup) k flow_record in
            let Gave : List (List ℕ) → Type 0 = λ given. GaveAllParts accepted own (inputs_at k (table_inputs order items)) given count in
            let parts : Gave (frames_of k frames) =
            subst Gave (given-as-offered k feeder.0 closed.0 first.0 last.0 feeder.1 closed.1 first.1 last.1)
            (all.has_assembled.gave accepted (made_of rule channels setup) is.flows k flow_record count of_flow at_count) in
            let gave : GaveByRule accepted own (comings_at k order items) (frames_of k frames) count =
            one-part_gave accepted own (comings_at k order items) (frames_of k frames) count
            (subst (λ inputs. GaveAllParts accepted own inputs (frames_of k frames) count) (inputs-come k order items) parts) in
            record {
              events = gave.events;
              lasts = gave.lasts;
              fates = gave.fates;
              ruled = gave.ruled;
              gives = record { n = gave.n; outcome = gave.outcome; closed = gave.closed };
            }

        -- what each source's worker noted
        abbrev lanes : FourNotes N
        lanes = concluded.lanes

        noted-there : (source : ℕ) → source < channel_limit → (notes : SourceNotes N) × (slice_get (in_order lanes) source ≡ Some notes) × (noted_by source ≡ Some notes)
        noted-there =
            four (λ source. (notes : SourceNotes N) × (slice_get (in_order lanes) source ≡ Some notes) × (noted_by source ≡ Some notes))
            (lanes.n0, refl, says.noted0) (lanes.n1, refl, says.noted1) (lanes.n2, refl, says.noted2) (lanes.n3, refl, says.noted3)

        module _ (source : ℕ) (below : source < channel_limit) where
          -- it is of what the source gave
          abbrev notes : SourceNotes N
          notes = (noted-there source below).0

          here : (P : SourceNotes N → Type 0) → IfSome (noted_by source) P → P notes
          here P is = subst (λ (o : Option (SourceNotes N)). IfSome o P) (noted-there source below).2 is

          long : length notes.lanes.items ≡ channels
          long = here (λ all. length all.lanes.items ≡ channels) (are-served source below).count

          of-lanes : (channel : ℕ) (one : N) → slice_get notes.lanes.items channel ≡ Some one → are_of (answers_on channel (served_by source)) one
          of-lanes = here (λ all. (channel : ℕ) (one : N) → slice_get all.lanes.items channel ≡ Some one → are_of (answers_on channel (served_by source)) one) (are-served source below).noted

          strays : AreStraysOf channels (belongs_to channels source) (given_by source) notes.strays
          strays = here (λ all. AreStraysOf channels (belongs_to channels source) (given_by source) all.strays) (are-served source below).strays

        -- what is noted of each channel is of its answers
        noted : (channel : ℕ) → channel < channels → (one : N) × (notes_on lanes channel ≡ Some one) × are_of (answered channel) one
        noted channel below =
            let source = channel % 4 in
            let there = noted-there source (source-below channel) in
            let one = element_at there.0.lanes.items channel (let count = long source (source-below channel) in omega arith) in
            let lists = get_or-map (λ (notes : SourceNotes N). notes.lanes.items) (in_order lanes) source there.0 [] (slice_get_within (in_order lanes) source there.0 there.1) in (
              one.0,
              ap (λ (l : List N). slice_get l channel) (lists ∙ ap (λ (notes : SourceNotes N). notes.lanes.items) (get_or_from_slice_get (in_order lanes) source there.0 there.0 there.1)) ∙ one.1,
              of-lanes source (source-below channel) channel one.0 one.1,
            )

        -- so it is for each source
        same-notes : (source : ℕ) (below : source < channel_limit) (all : SourceNotes N) → slice_get (in_order lanes) source ≡ Some all → notes source below ≡ all
        same-notes source below all at = same_Some (notes source below) all (sym (noted-there source below).1 ∙ at)

        have-notes : HaveNotes channels lanes
        have-notes source all at =
            let below : source < channel_limit = slice_get_within (in_order lanes) source all at in
            subst (λ (n : SourceNotes N). length n.lanes.items ≡ channels) (same-notes source below all at) (long source below)

        strays-are : AreStraysOfSources channels sources (strays_of lanes)
        strays-are source inputs counts at_inputs at =
            let below : source < channel_limit =
            let within = slice_get_within (strays_of lanes) source counts at in
            let count = length-map (in_order lanes) (λ (n : SourceNotes N). n.strays) in omega (arith, within, count) in
            let there = noted-there source below in
            let same : there.0.strays ≡ counts =
            same_Some there.0.strays counts
            (sym (slice_get-map (λ (n : SourceNotes N). n.strays) (in_order lanes) source ∙ ap (λ (o : Option (SourceNotes N)). option_map (λ (n : SourceNotes N). n.strays) o) there.1) ∙ at) in
            subst (λ (c : Strays). AreStraysOf channels (belongs_to channels source) inputs c) same
            (subst (λ (given : List ChannelInput). AreStraysOf channels (belongs_to channels source) given there.0.strays)
            (get_or_from_slice_get sources source inputs [] at_inputs) (strays source below))

        -- what was given and counted is the answer for what came in, in the order it was taken
        answer-of-run : IsAnswerBy are_of channels rule accepted setup incoming order frames (given_of sent) concluded.counts.items (notes_on lanes)
        answer-of-run = record {
          intake = record { answered = answered; lanes = lanes-answered; items = items; merged = merged };
          frames_only = only-frames;
          requests_only = only-requests;
          flow_count = ap (λ (counts : Vec FlowCounts Global). length counts.items) says.counts_are ∙ all.has_assembled.count ∙ is.flows.flow_count;
          flows = λ k flow_record count of_flow at. flow-gave k flow_record count of_flow (ap (λ (counts : Vec FlowCounts Global). slice_get counts.items k) (sym says.counts_are) ∙ at);
          requested = requests-on;
          noted = noted;
        }

        -- so it is what the run comes to
        pub run-answers : (requests : List Given) → requests ≡ given_of sent → (came_in : List (List ChannelInput) → Incoming → Type 0) → came_in sources incoming
            → ConcludesAnswer are_of channels rule accepted setup came_in kept frames requests concluded
        run-answers requests same came_in came = record {
          sources = sources;
          incoming = incoming;
          came = came;
          order = order;
          in_turn = in-turn;
          ordered = subst (λ (o : Option (Vec ℕ Global)). HasOrder kept order o) (sym says.order_is) all.ordered;
          answer = subst (λ given. IsAnswerBy are_of channels rule accepted setup incoming order frames given concluded.counts.items (notes_on lanes)) (sym same) answer-of-run;
          have_notes = have-notes;
          strays = strays-are;
        }
