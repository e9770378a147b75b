-- On which channels a flow's segments come, and what is handed in to it.
use Rattle.std.proofs.Common.{◌≡◌, ℕ, zero, suc, ◌<◌, ◌==◌, ◌&&◌, inl, inr, true, Option, None, Some, List, [], ◌∷◌, map, filter, length, slice_get, if◌then◌else◌, refl, sym, ap, subst, ◌∙◌, arith}
use Rattle.std.proofs.lemmas.Bool.{cases_lt, eq-eqb, eqb-true, and_parts, and_from, lt-ltb}
use Rattle.std.proofs.lemmas.List.Folds.{Any-from_list_any, list_any_at}
use Rattle.std.proofs.lemmas.Option.{same_Some, slice_get_within, slice_get_read, get_or_from_slice_get}
use Rattle.docsis_wire.specs.declared.segment.Segment.{Segment}
use Rattle.flow_records.specs.declared.record.FlowRecord.{FlowRecord}
use Rattle.flow_records.specs.declared.event.Event.{Event}
use Rattle.flow_records.specs.declared.event.Event.TheVariants.{Arrive}
use Rattle.lane.specs.declared.admitted.Admitted.{Admitted}
use Rattle.lane.specs.declared.sids.SidRow.{SidRow}
use Rattle.lane.specs.Limits.{channel_limit}
use Rattle.lane.specs.Report.{admitted_of}
use Rattle.loss_rule.specs.Rule.{HasChannel}
use Rattle.loss_rule.specs.InOrder.{Comes, HaveNoDecision}
use Rattle.receiver.specs.declared.setup.Setup.{Setup}
use Rattle.flow_records.specs.declared.decision.Decision.{Decision}
use Rattle.lane.specs.Limits.{senders}
use Rattle.receiver.specs.Items.{Incoming, lane_setup, items_of, events_at}
use Rattle.flow_records.specs.Decisions.{gap_of, event_of_decision, names_a_flow}
use Rattle.lane.specs.Report.{event_of_admitted}
use Rattle.receiver.specs.Intake.{IsIntake}
use Rattle.bonded_flows.specs.Channels.{has_row}
use Rattle.receiver.specs.Ruled.{channels_of, ruled_flow, comings_at}
use Rattle.receiver.specs.Channels.{HasRow, segments_on, events_handed_in, segments_of_flow}
use Rattle.receiver.proofs.ChannelInputs.{rows-admitted}
use Rattle.receiver.proofs.Senders.{four}
use Rattle.receiver.proofs.FlowComings.{IsSentBy, IsArrival, IsDecision, AreOfTheirSenders, comes-item, item-picked, come-admitted, handed-events, handed-item}

-- a row that gives the flow an identifier there is found
pub row-found : (rows : List SidRow) (flow channel : ℕ) → HasRow rows flow channel → has_row rows flow channel ≡ true
row-found rows flow channel has =
    let row = has.row in
    let there = get_or_from_slice_get rows has.place row row has.stands in
    list_any_at (λ (one : SidRow). (one.flow == flow) && (one.channel == channel)) rows has.place row (slice_get_within rows has.place row has.stands)
    (ap (λ (one : SidRow). (one.flow == flow) && (one.channel == channel)) there
    ∙ and_from (row.flow == flow) (row.channel == channel) (eq-eqb row.flow flow has.of_flow) (eq-eqb row.channel channel has.of_channel))

-- and what is found is such a row
pub found-row : (rows : List SidRow) (flow channel : ℕ) → has_row rows flow channel ≡ true → HasRow rows flow channel
found-row rows flow channel found =
    let any = Any-from_list_any (λ (one : SidRow). (one.flow == flow) && (one.channel == channel)) rows found in
    let row = any.1 in
    let both = and_parts (row.flow == flow) (row.channel == channel) any.4 in
    record {
      place = any.0;
      row = row;
      stands = slice_get_read rows (length rows) any.0 row refl any.2 (sym any.3);
      of_flow = eqb-true row.flow flow both.0;
      of_channel = eqb-true row.channel channel both.1;
    }

module _ (rows : List SidRow) (k : ℕ) (flow_record : FlowRecord) where
  -- the flow has a channel exactly if there is such a row
  channel-carried : (channel : ℕ) → channel < channel_limit → slice_get (channels_of rows k) channel ≡ Some (has_row rows k channel)
  channel-carried = four (λ channel. slice_get (channels_of rows k) channel ≡ Some (has_row rows k channel)) refl refl refl refl

  pub row-has_channel : (channel : ℕ) → channel < channel_limit → HasRow rows k channel → HasChannel (ruled_flow rows k flow_record) channel
  row-has_channel channel below has = channel-carried channel below ∙ ap Some (row-found rows k channel has)

  pub channel-has_row : (channel : ℕ) → channel < channel_limit → HasChannel (ruled_flow rows k flow_record) channel → HasRow rows k channel
  channel-has_row channel below has =
      found-row rows k channel (same_Some (has_row rows k channel) true (sym (channel-carried channel below) ∙ has))

-- what a mapped list has at a place
mapped-at : {X Y : Type 0} (f : X → Y) (xs : List X) (j : ℕ) (y : Y) → slice_get (map f xs) j ≡ Some y → (x : X) × (slice_get xs j ≡ Some x) × (f x ≡ y)
mapped-at f [] j y at = absurd cc
mapped-at f (x ∷ xs) zero y at = (x, refl, same_Some (f x) y at)
mapped-at f (x ∷ xs) (suc j) y at = mapped-at f xs j y at

-- a decision is one as an item too
gap-is_decision : (flow : ℕ) (upto : Option ℕ) → IsDecision (gap_of flow upto)
gap-is_decision flow None = tt
gap-is_decision flow (Some number) = tt

module _ (setup : Setup) (incoming : Incoming) (order : List ℕ) (intake : IsIntake setup incoming order) where
  sent : ℕ → List Event
  sent sender = items_of setup incoming intake.answered sender

  -- an item is one of those that its sender sends
  sender-named : (sender : ℕ) (item : Event) → IsSentBy order intake.items sender item → sender < senders
  sender-named sender item is =
      let within = slice_get_within order is.place sender is.sender_there in
      subst (λ s. s < senders) (get_or_from_slice_get order is.place sender sender is.sender_there) (intake.merged.named is.place sender within)

  -- at some place of what it sends
  sent-at : (sender : ℕ) (item : Event) → IsSentBy order intake.items sender item → (j : ℕ) × (slice_get (sent sender) j ≡ Some item)
  unfolding sent
  sent-at sender item is =
      let found = item-picked sender item order intake.items is.place is.sender_there is.item_there in
      (found.0, ap (λ l. slice_get l found.0) (sym (intake.merged.lists_are sender (sender-named sender item is))) ∙ found.1)

  -- a channel sends what it admits
  channel-sends : (channel : ℕ) → channel < channel_limit → sent channel ≡ map event_of_admitted (admitted_of (intake.answered channel))
  unfolding sent
  channel-sends channel below =
      ap (λ b. if b then map event_of_admitted (admitted_of (intake.answered channel)) else map event_of_decision (filter (names_a_flow (length setup.flows.items)) incoming.decisions))
      (lt-ltb channel channel_limit below)

  -- so an item of a channel was admitted there
  admitted-item : (channel : ℕ) (item : Event) → channel < channel_limit → IsSentBy order intake.items channel item
      → (j : ℕ) × (one : Admitted) × (slice_get (admitted_of (intake.answered channel)) j ≡ Some one) × (event_of_admitted one ≡ item)
  admitted-item channel item below is =
      let found = sent-at channel item is in
      let one = mapped-at event_of_admitted (admitted_of (intake.answered channel)) found.0 item (ap (λ l. slice_get l found.0) (sym (channel-sends channel below)) ∙ found.1) in
      (found.0, one.0, one.1, one.2)

  -- and one of the fifth sender is a decision
  decided-item : (item : Event) → IsSentBy order intake.items 4 item
      → (j : ℕ) × (decision : Decision) × (slice_get (filter (names_a_flow (length setup.flows.items)) incoming.decisions) j ≡ Some decision) × (event_of_decision decision ≡ item)
  unfolding sent
  decided-item item is =
      let found = sent-at 4 item is in
      let one = mapped-at event_of_decision (filter (names_a_flow (length setup.flows.items)) incoming.decisions) found.0 item found.1 in
      (found.0, one.0, one.1, one.2)

  pub of-their_senders : AreOfTheirSenders order intake.items
  of-their_senders sender item is =
      elim (cases_lt sender channel_limit) [
        | inl channel ↦
            let one = admitted-item sender item channel is in
            inr (λ same. omega arith, subst IsArrival one.3 tt)
        | inr above ↦
            let named = sender-named sender item is in
            let fifth : sender ≡ 4 = omega arith in
            let one = decided-item item (subst (λ s. IsSentBy order intake.items s item) fifth is) in
            inl (fifth, subst IsDecision one.3 (gap-is_decision one.1.flow one.1.upto))
      ]

  -- each segment comes on a channel of its flow
  pub come-on_own : (flow_record : FlowRecord) (k p channel : ℕ) (segment : Segment) → Comes (comings_at k order intake.items) p channel segment
      → HasChannel (ruled_flow setup.sids.items k flow_record) channel
  come-on_own flow_record k p channel segment comes =
      let is = comes-item k order intake.items p channel segment comes in
      elim (of-their_senders channel (Arrive k segment) is) [
        | inl (fifth, decision) ↦ absurd decision
        | inr (other, arrival) ↦
            let named = sender-named channel (Arrive k segment) is in
            let below : channel < channel_limit = omega arith in
            let one = admitted-item channel (Arrive k segment) below is in
            let of_flow : one.1.flow ≡ k = cc in
            let within = slice_get_within (admitted_of (intake.answered channel)) one.0 one.1 one.2 in
            let all = rows-admitted (lane_setup setup channel) (intake.answered channel) (intake.lanes channel below).answers one.0 one.1 within in
            row-has_channel setup.sids.items k flow_record channel below
            (subst (λ f. HasRow setup.sids.items f channel) of_flow
            (subst (λ (a : Admitted). HasRow setup.sids.items a.flow channel) (get_or_from_slice_get (admitted_of (intake.answered channel)) one.0 one.1 one.1 one.2) all))
      ]

  -- just those that the channel admits of the flow
  pub come-as_admitted : (k channel : ℕ) → channel < channel_limit
      → segments_on channel (comings_at k order intake.items) ≡ segments_of_flow k (admitted_of (intake.answered channel))
  unfolding sent
  come-as_admitted k channel below =
      come-admitted k channel order intake.items (admitted_of (intake.answered channel))
      (intake.merged.lists_are channel (let named : channel < senders = omega arith in named) ∙ channel-sends channel below)

  -- what is handed in are the decisions that name the flow
  pub handed-as_decided : (k : ℕ)
      → events_handed_in (comings_at k order intake.items) ≡ events_at k (map event_of_decision (filter (names_a_flow (length setup.flows.items)) incoming.decisions))
  handed-as_decided k = handed-events k order intake.items of-their_senders ∙ ap (events_at k) (intake.merged.lists_are 4 (omega arith))

  -- and where there is none, nothing is handed in
  pub nothing-decided : (k : ℕ) → incoming.decisions ≡ [] → HaveNoDecision (comings_at k order intake.items)
  nothing-decided k none p event at =
      let found = handed-item k order intake.items of-their_senders p event at in
      let one = decided-item found.0 found.1 in
      let there : slice_get (filter (names_a_flow (length setup.flows.items)) []) one.0 ≡ Some one.1 =
      ap (λ l. slice_get (filter (names_a_flow (length setup.flows.items)) l) one.0) (sym none) ∙ one.2 in
      absurd cc
