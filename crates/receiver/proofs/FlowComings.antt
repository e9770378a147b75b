-- What comes to a flow, by the items of the five senders.
use Rattle.std.proofs.Common.{◌≡◌, ◌≢◌, ℕ, zero, suc, ◌==◌, ◌⊎◌, inl, inr, Bool, true, false, cond, Option, Some, None, List, [], ◌∷◌, map, filter, filter_map, slice_get, if◌then◌else◌, refl, sym, ap, subst, ◌∙◌, eq-eqb, ne_eqb}
use Rattle.std.specs.List.{cons_option}
use Rattle.std.proofs.lemmas.Bool.{eqb-true, eqb-false}
use Rattle.std.proofs.lemmas.Option.{same_Some}
use Rattle.docsis_wire.specs.declared.segment.Segment.{Segment}
use Rattle.flow_records.specs.declared.event.Event.{Event}
use Rattle.flow_records.specs.declared.event.Event.TheVariants.{Arrive, Gap, GapTo, SkipTo}
use Rattle.flow_core.specs.Events.{FlowEvent, arrives}
use Rattle.flow_core.specs.Flows.{event_of}
use Rattle.flow_records.specs.Events.{flow_of}
use Rattle.lane.specs.declared.admitted.Admitted.{Admitted}
use Rattle.loss_rule.specs.Rule.{Coming, on_channel, handed_in}
use Rattle.loss_rule.specs.InOrder.{Comes, HandInDecisions}
use Rattle.receiver.specs.Items.{events_at}
use Rattle.lane.specs.Report.{event_of_admitted}
use Rattle.receiver.specs.Order.{picked}
use Rattle.receiver.specs.Ruled.{coming_of, comings_at}
use Rattle.receiver.specs.Channels.{segment_on, segments_on, event_handed_in, events_handed_in, segments_of_flow}

-- one of some items, with its sender
pub record IsSentBy (order : List ℕ) (items : List Event) (sender : ℕ) (item : Event) : Type 0 where
  pub place : ℕ
  pub sender_there : slice_get order place ≡ Some sender
  pub item_there : slice_get items place ≡ Some item

-- it is one of them with one more in front
item-further : (order : List ℕ) (items : List Event) (tag sender : ℕ) (first item : Event) → IsSentBy order items sender item
    → IsSentBy (tag ∷ order) (first ∷ items) sender item
item-further order items tag sender first item is = record { place = suc is.place; sender_there = is.sender_there; item_there = is.item_there }

-- what comes to flow k of some items, made of one of them
pub record ComesOfItem (k : ℕ) (order : List ℕ) (items : List Event) (coming : Coming) : Type 0 where
  pub sender : ℕ
  pub item : Event
  pub of_items : IsSentBy order items sender item
  pub of_flow : flow_of item ≡ k
  pub is : coming ≡ coming_of sender item

-- each coming is made so
pub made-of_item : (k : ℕ) (order : List ℕ) (items : List Event) (p : ℕ) (coming : Coming) → slice_get (comings_at k order items) p ≡ Some coming
    → ComesOfItem k order items coming
made-of_item k [] items p coming at = absurd cc
made-of_item k (tag ∷ order) [] p coming at = absurd cc
made-of_item k (tag ∷ order) (first ∷ items) p coming at = found (flow_of first == k) refl (λ q there. made-of_item k order items q coming there) p at
  where
    further : ComesOfItem k order items coming → ComesOfItem k (tag ∷ order) (first ∷ items) coming
    further one = record {
      sender = one.sender;
      item = one.item;
      of_items = item-further order items tag one.sender first one.item one.of_items;
      of_flow = one.of_flow;
      is = one.is;
    }

    found : (own : Bool) → (flow_of first == k) ≡ own → ((q : ℕ) → slice_get (comings_at k order items) q ≡ Some coming → ComesOfItem k order items coming)
        → (q : ℕ) → slice_get (cond own (coming_of tag first ∷ comings_at k order items) (comings_at k order items)) q ≡ Some coming
        → ComesOfItem k (tag ∷ order) (first ∷ items) coming
    found true own rest zero there = record {
      sender = tag;
      item = first;
      of_items = record { place = 0; sender_there = refl; item_there = refl };
      of_flow = eqb-true (flow_of first) k own;
      is = sym (same_Some (coming_of tag first) coming there);
    }
    found true own rest (suc q) there = further (rest q there)
    found false own rest q there = further (rest q there)

-- the item of a segment that comes on a channel is that segment, of the channel's sender
segment-item : (k sender channel : ℕ) (item : Event) (segment : Segment) → flow_of item ≡ k → on_channel channel segment ≡ coming_of sender item
    → (sender ≡ channel) × (item ≡ Arrive k segment)
segment-item k sender channel (Arrive flow other) segment of_flow is =
    let same : sender ≡ channel = cc in
    let one : other ≡ segment = cc in
    (same, ap (λ f. Arrive f other) of_flow ∙ ap (Arrive k) one)
segment-item k sender channel (Gap flow) segment of_flow is = absurd cc
segment-item k sender channel (GapTo flow number) segment of_flow is = absurd cc
segment-item k sender channel (SkipTo flow number) segment of_flow is = absurd cc

pub comes-item : (k : ℕ) (order : List ℕ) (items : List Event) (p channel : ℕ) (segment : Segment) → Comes (comings_at k order items) p channel segment
    → IsSentBy order items channel (Arrive k segment)
comes-item k order items p channel segment comes =
    let one = made-of_item k order items p (on_channel channel segment) comes in
    let is = segment-item k one.sender channel one.item segment one.of_flow one.is in
    subst (λ s. IsSentBy order items s (Arrive k segment)) is.0 (subst (IsSentBy order items one.sender) is.1 one.of_items)

-- no segment is handed in
decision-item : (sender : ℕ) (item : Event) (segment : Segment) → handed_in (arrives segment) ≢ coming_of sender item
decision-item sender (Arrive flow other) segment is = absurd cc
decision-item sender (Gap flow) segment is = absurd cc
decision-item sender (GapTo flow number) segment is = absurd cc
decision-item sender (SkipTo flow number) segment is = absurd cc

pub hands-in_decisions : (k : ℕ) (order : List ℕ) (items : List Event) → HandInDecisions (comings_at k order items)
hands-in_decisions k order items p segment at =
    let one = made-of_item k order items p (handed_in (arrives segment)) at in
    decision-item one.sender one.item segment one.is

-- an item of a sender is among those that are picked of it
pub item-picked : (sender : ℕ) (item : Event) (order : List ℕ) (items : List Event) (place : ℕ)
    → slice_get order place ≡ Some sender → slice_get items place ≡ Some item → (j : ℕ) × (slice_get (picked sender order items) j ≡ Some item)
item-picked sender item [] items place here there = absurd cc
item-picked sender item (tag ∷ order) [] place here there = absurd cc
item-picked sender item (tag ∷ order) (first ∷ items) zero here there =
    let same : tag ≡ sender = cc in
    let one : first ≡ item = cc in
    (0, ap (λ b. slice_get (cond b (first ∷ picked sender order items) (picked sender order items)) 0) (eq-eqb sender tag (sym same)) ∙ ap Some one)
item-picked sender item (tag ∷ order) (first ∷ items) (suc place) here there =
    among (sender == tag) (item-picked sender item order items place here there)
  where
    among : (own : Bool) → ((j : ℕ) × (slice_get (picked sender order items) j ≡ Some item))
        → (j : ℕ) × (slice_get (cond own (first ∷ picked sender order items) (picked sender order items)) j ≡ Some item)
    among true found = (suc found.0, found.1)
    among false found = found

-- the segment of flow k that an item is
segment-of : ℕ → Event → Option Segment
segment-of k (Arrive flow segment) = if flow == k then Some segment else None
segment-of k (Gap flow) = None
segment-of k (GapTo flow number) = None
segment-of k (SkipTo flow number) = None

-- the segments of flow k among admitted ones
admitted-segments : (k : ℕ) (admitted : List Admitted) → filter_map (segment-of k) (map event_of_admitted admitted) ≡ segments_of_flow k admitted
unfolding segment-of
admitted-segments k [] = refl
admitted-segments k (one ∷ admitted) = own (one.flow == k) (admitted-segments k admitted)
  where
    own : (is : Bool) → filter_map (segment-of k) (map event_of_admitted admitted) ≡ segments_of_flow k admitted
        → cons_option (cond is (Some one.segment) None) (filter_map (segment-of k) (map event_of_admitted admitted))
        ≡ map (λ (a : Admitted). a.segment) (cond is (one ∷ filter (λ (a : Admitted). a.flow == k) admitted) (filter (λ (a : Admitted). a.flow == k) admitted))
    own true rest = ap (λ t. one.segment ∷ t) rest
    own false rest = rest

-- what comes on a channel are the segments of the flow among the items of its sender
own-channel : (k channel tag : ℕ) (item : Event) → flow_of item ≡ k → channel ≡ tag → segment_on channel (coming_of tag item) ≡ segment-of k item
unfolding segment-of
own-channel k channel tag (Arrive flow segment) of_flow same =
    ap (λ b. cond b (Some segment) None) (eq-eqb tag channel (sym same)) ∙ sym (ap (λ b. cond b (Some segment) None) (eq-eqb flow k of_flow))
own-channel k channel tag (Gap flow) of_flow same = refl
own-channel k channel tag (GapTo flow number) of_flow same = refl
own-channel k channel tag (SkipTo flow number) of_flow same = refl

other-channel : (channel tag : ℕ) (item : Event) → channel ≢ tag → segment_on channel (coming_of tag item) ≡ None
other-channel channel tag (Arrive flow segment) apart = ap (λ b. cond b (Some segment) None) (ne_eqb tag channel (λ same. apart (sym same)))
other-channel channel tag (Gap flow) apart = refl
other-channel channel tag (GapTo flow number) apart = refl
other-channel channel tag (SkipTo flow number) apart = refl

other-flow : (k : ℕ) (item : Event) → flow_of item ≢ k → segment-of k item ≡ None
unfolding segment-of
other-flow k (Arrive flow segment) apart = ap (λ b. cond b (Some segment) None) (ne_eqb flow k apart)
other-flow k (Gap flow) apart = refl
other-flow k (GapTo flow number) apart = refl
other-flow k (SkipTo flow number) apart = refl

come-on_channel : (k channel : ℕ) (order : List ℕ) (items : List Event)
    → segments_on channel (comings_at k order items) ≡ filter_map (segment-of k) (picked channel order items)
come-on_channel k channel [] items = refl
come-on_channel k channel (tag ∷ order) [] = refl
come-on_channel k channel (tag ∷ order) (item ∷ items) =
    step (flow_of item == k) refl (channel == tag) refl (come-on_channel k channel order items)
  where
    step : (own : Bool) → (flow_of item == k) ≡ own → (here : Bool) → (channel == tag) ≡ here
        → segments_on channel (comings_at k order items) ≡ filter_map (segment-of k) (picked channel order items)
        → filter_map (segment_on channel) (cond own (coming_of tag item ∷ comings_at k order items) (comings_at k order items))
        ≡ filter_map (segment-of k) (cond here (item ∷ picked channel order items) (picked channel order items))
    step true own true here is =
        ap (λ o. cons_option o (segments_on channel (comings_at k order items))) (own-channel k channel tag item (eqb-true (flow_of item) k own) (eqb-true channel tag here))
        ∙ ap (cons_option (segment-of k item)) is
    step true own false here is =
        ap (λ o. cons_option o (segments_on channel (comings_at k order items))) (other-channel channel tag item (eqb-false channel tag here)) ∙ is
    step false own true here is = is ∙ sym (ap (λ o. cons_option o (filter_map (segment-of k) (picked channel order items))) (other-flow k item (eqb-false (flow_of item) k own)))
    step false own false here is = is

-- so of what a channel admitted those of the flow
pub come-admitted : (k channel : ℕ) (order : List ℕ) (items : List Event) (admitted : List Admitted) → picked channel order items ≡ map event_of_admitted admitted
    → segments_on channel (comings_at k order items) ≡ segments_of_flow k admitted
come-admitted k channel order items admitted are =
    come-on_channel k channel order items ∙ ap (filter_map (segment-of k)) are ∙ admitted-segments k admitted

-- an item is a segment, or a decision
abbrev pub IsArrival : Event → Type 0
IsArrival (Arrive flow segment) = Unit {0}
IsArrival _ = ⊥

abbrev pub IsDecision : Event → Type 0
IsDecision (Arrive flow segment) = ⊥
IsDecision _ = Unit {0}

-- the fifth sender sends decisions, and the others segments
abbrev pub IsOfItsSender : ℕ → Event → Type 0
IsOfItsSender sender item = ((sender ≡ 4) × IsDecision item) ⊎ ((sender ≢ 4) × IsArrival item)

abbrev pub AreOfTheirSenders : List ℕ → List Event → Type 0
AreOfTheirSenders order items = (sender : ℕ) (item : Event) → IsSentBy order items sender item → IsOfItsSender sender item

-- a decision is handed in, and a segment isn't
decision-handed : (sender : ℕ) (item : Event) → IsDecision item → event_handed_in (coming_of sender item) ≡ Some (event_of item)
decision-handed sender (Arrive flow segment) is = absurd is
decision-handed sender (Gap flow) is = refl
decision-handed sender (GapTo flow number) is = refl
decision-handed sender (SkipTo flow number) is = refl

arrival-not_handed : (sender : ℕ) (item : Event) → IsArrival item → event_handed_in (coming_of sender item) ≡ None
arrival-not_handed sender (Arrive flow segment) is = refl
arrival-not_handed sender (Gap flow) is = absurd is
arrival-not_handed sender (GapTo flow number) is = absurd is
arrival-not_handed sender (SkipTo flow number) is = absurd is

handed-decision : (sender : ℕ) (item : Event) (event : FlowEvent) → handed_in event ≡ coming_of sender item → IsArrival item → ⊥
handed-decision sender (Arrive flow segment) event is arrival = absurd cc
handed-decision sender (Gap flow) event is arrival = arrival
handed-decision sender (GapTo flow number) event is arrival = arrival
handed-decision sender (SkipTo flow number) event is arrival = arrival

-- of which sender a decision is, and of which a segment is
fifth-decision : (sender : ℕ) (item : Event) → sender ≡ 4 → IsOfItsSender sender item → IsDecision item
fifth-decision sender item fifth (inl (same, decision)) = decision
fifth-decision sender item fifth (inr (apart, arrival)) = absurd (apart fifth)

other-arrival : (sender : ℕ) (item : Event) → sender ≢ 4 → IsOfItsSender sender item → IsArrival item
other-arrival sender item other (inl (same, decision)) = absurd (other same)
other-arrival sender item other (inr (apart, arrival)) = arrival

-- so what is handed in are the flow's events among the items of the fifth
pub handed-events : (k : ℕ) (order : List ℕ) (items : List Event) → AreOfTheirSenders order items
    → events_handed_in (comings_at k order items) ≡ events_at k (picked 4 order items)
handed-events k [] items of_senders = refl
handed-events k (tag ∷ order) [] of_senders = refl
handed-events k (tag ∷ order) (item ∷ items) of_senders =
    step (flow_of item == k) refl (4 == tag) refl
    (handed-events k order items (λ sender other is. of_senders sender other (item-further order items tag sender item other is)))
    (of_senders tag item (record { place = 0; sender_there = refl; item_there = refl }))
  where
    step : (own : Bool) → (flow_of item == k) ≡ own → (fifth : Bool) → (4 == tag) ≡ fifth
        → events_handed_in (comings_at k order items) ≡ events_at k (picked 4 order items) → IsOfItsSender tag item
        → filter_map event_handed_in (cond own (coming_of tag item ∷ comings_at k order items) (comings_at k order items))
        ≡ events_at k (cond fifth (item ∷ picked 4 order items) (picked 4 order items))
    step true own true fifth rest of_sender =
        ap (λ o. cons_option o (events_handed_in (comings_at k order items))) (decision-handed tag item (fifth-decision tag item (sym (eqb-true 4 tag fifth)) of_sender))
        ∙ ap (λ t. event_of item ∷ t) rest
        ∙ sym (ap (λ b. map event_of (cond b (item ∷ filter (λ event. flow_of event == k) (picked 4 order items)) (filter (λ event. flow_of event == k) (picked 4 order items)))) own)
    step true own false fifth rest of_sender =
        ap (λ o. cons_option o (events_handed_in (comings_at k order items))) (arrival-not_handed tag item (other-arrival tag item (λ same. eqb-false 4 tag fifth (sym same)) of_sender))
        ∙ rest
    step false own true fifth rest of_sender =
        rest ∙ sym (ap (λ b. map event_of (cond b (item ∷ filter (λ event. flow_of event == k) (picked 4 order items)) (filter (λ event. flow_of event == k) (picked 4 order items)))) own)
    step false own false fifth rest of_sender = rest

-- a decision among what comes is an item of the fifth
pub handed-item : (k : ℕ) (order : List ℕ) (items : List Event) → AreOfTheirSenders order items → (p : ℕ) (event : FlowEvent)
    → slice_get (comings_at k order items) p ≡ Some (handed_in event) → (item : Event) × IsSentBy order items 4 item
handed-item k order items of_senders p event at =
    let one = made-of_item k order items p (handed_in event) at in
    elim (of_senders one.sender one.item one.of_items) [
      | inl (fifth, decision) ↦ (one.item, subst (λ s. IsSentBy order items s one.item) fifth one.of_items)
      | inr (other, arrival) ↦ absurd (handed-decision one.sender one.item event one.is arrival)
    ]
