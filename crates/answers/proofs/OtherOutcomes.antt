-- Outcomes of what comes in and of what stands in for it agree on the flows that are selected.
use Rattle.std.proofs.Common.{◌≡◌, ℕ, ◌<◌, ◌≤◌, inl, inr, Bool, List, [], length, map, filter, lit<, sym, subst, ◌∙◌, arith}
use Rattle.std.specs.List.{AllZip}
use Rattle.std.proofs.lemmas.Bool.{cases_lt}
use Rattle.std.proofs.lemmas.List.{length-map, get_or_past}
use Rattle.std.proofs.lemmas.Option.{same_Some}
use Rattle.ccf.proofs.OneJoining.{Joins-once}
use Rattle.flow_records.specs.declared.decision.Decision.{Decision}
use Rattle.flow_records.specs.declared.event.Event.{Event}
use Rattle.flow_records.specs.declared.record.FlowRecord.{FlowRecord}
use Rattle.flow_records.specs.Decisions.{names_a_flow, event_of_decision}
use Rattle.docsis_wire.proofs.StreamPlaces.{element_at}
use Rattle.std.proofs.lemmas.Option.{slice_get_within}
use Rattle.flow_core.specs.Fates.{no_fates}
use Rattle.flow_core.specs.Events.{FlowEvent}
use Rattle.flow_core.proofs.FlowOutcomes.{closed-outcome}
use Rattle.lane.specs.Limits.{channel_limit, senders}
use Rattle.lane.specs.Inputs.{AnsweredInput}
use Rattle.loss_rule.specs.declared.rule.LossRule.{LossRule}
use Rattle.loss_rule.specs.Rule.{Coming, RuledFlow, AreRuled, no_lasts}
use Rattle.loss_rule.proofs.Reaching.{reached-none}
use Rattle.loss_rule.proofs.Rulings.{rules-once}
use Rattle.receiver.specs.declared.outcome.FlowOutcome.{FlowOutcome}
use Rattle.receiver.specs.declared.outcome.Outcome.{Outcome}
use Rattle.receiver.specs.declared.setup.Setup.{Setup}
use Rattle.receiver.specs.Faults.{CanReceive}
use Rattle.receiver.specs.Items.{Incoming, lane_setup, IsLaneOf, AreLanesOf, items_of}
use Rattle.receiver.specs.Intake.{IsIntake}
use Rattle.receiver.specs.Outcome.{IsOutcomeOfFlow, requests_on}
use Rattle.receiver.specs.Ruled.{ruled_flow, comings_at, IsRuledOutcome, IsOutcomeBy}
use Rattle.receiver.specs.SameOutcome.{GaveTheSame}
use Rattle.receiver.proofs.OneReplay.{one-answered, one-items}
use Rattle.receiver.proofs.MergedLists.{one-lane}
use Rattle.receiver.proofs.Senders.{four, five}
use Rattle.receiver.specs.Elsewhere.{StandsIn, DiffersElsewhere, AgreesOn}
use Rattle.receiver.proofs.Pairs.{zip_same}
use Rattle.answers.specs.Beside.{AnswersInPlaceOf}
use Rattle.answers.proofs.SomeIntake.{of_four}
use Rattle.answers.proofs.StandIns.{some_answers}
use Rattle.answers.proofs.OtherItems.{IsItemFor, item_same, items-for, requests-same, count-same, refused-same, merged-for, comings-same}

-- the answers of a channel
record OtherLane (selected : ℕ → Bool) (setup : Setup) (other : Incoming) (channel : ℕ) (answered : List AnsweredInput) : Type 0 where
  more : List AnsweredInput
  lane : IsLaneOf setup other channel more
  answer_for : AllZip (AnswersInPlaceOf selected) answered more

other_lane : (selected : ℕ → Bool) (setup : Setup) (incoming other : Incoming) (channel : ℕ) (answered : List AnsweredInput) → IsLaneOf setup incoming channel answered
    → AllZip (StandsIn selected) answered (other.inputs channel) → OtherLane selected setup other channel answered
other_lane selected setup incoming other channel answered lane stands =
    let found = some_answers selected (lane_setup setup channel) answered (other.inputs channel) lane.answers stands in
    record { more = found.0; lane = record { answers = found.1; inputs = found.2 }; answer_for = found.3 }

-- the answers of all four
pub other_lanes : (selected : ℕ → Bool) (setup : Setup) (incoming other : Incoming) (differs : DiffersElsewhere selected setup incoming other)
    → (answered : ℕ → List AnsweredInput) × AreLanesOf setup other answered
    × ((channel : ℕ) → channel < channel_limit → AllZip (AnswersInPlaceOf selected) (differs.answered channel) (answered channel))
other_lanes selected setup incoming other differs =
    let one : (channel : ℕ) → channel < channel_limit → OtherLane selected setup other channel (differs.answered channel) =
    λ channel below. other_lane selected setup incoming other channel (differs.answered channel) (differs.lanes channel below) (differs.inputs channel below) in
    let a = one 0 (lit< tt) in
    let b = one 1 (lit< tt) in
    let c = one 2 (lit< tt) in
    let d = one 3 (lit< tt) in
    let answered = of_four a.more b.more c.more d.more in (
      answered,
      four (λ channel. IsLaneOf setup other channel (answered channel)) a.lane b.lane c.lane d.lane,
      four (λ channel. AllZip (AnswersInPlaceOf selected) (differs.answered channel) (answered channel)) a.answer_for b.answer_for c.answer_for d.answer_for,
    )

-- What is taken in of the others, in the same order.
pub record OtherIntake (selected : ℕ → Bool) (setup : Setup) (incoming other : Incoming) (order : List ℕ) (intake : IsIntake setup incoming order) : Type 0 where
  pub taken : IsIntake setup other order
  pub answer_for : (channel : ℕ) → channel < channel_limit → AllZip (AnswersInPlaceOf selected) (intake.answered channel) (taken.answered channel)
  pub items_for : AllZip (IsItemFor selected) intake.items taken.items

pub other_intake : (selected : ℕ → Bool) (setup : Setup) (incoming other : Incoming) (order : List ℕ) (intake : IsIntake setup incoming order)
    → CanReceive setup → DiffersElsewhere selected setup incoming other → OtherIntake selected setup incoming other order intake
other_intake selected setup incoming other order intake can differs =
    let made = other_lanes selected setup incoming other differs in
    let answered = made.0 in
    let R = IsItemFor selected in
    let for : (channel : ℕ) → channel < channel_limit → AllZip (AnswersInPlaceOf selected) (intake.answered channel) (answered channel) =
    λ channel below. subst (λ (t : List AnsweredInput). AllZip (AnswersInPlaceOf selected) t (answered channel))
    (one-lane setup incoming can differs.answered intake.answered differs.lanes intake.lanes channel below) (made.2 channel below) in
    let lists = items_of setup other answered in
    let names = names_a_flow (length setup.flows.items) in
    let same_decisions : AllZip R (map event_of_decision (filter names incoming.decisions)) (map event_of_decision (filter names other.decisions)) =
    subst (λ (ds : List Decision). AllZip R (map event_of_decision (filter names incoming.decisions)) (map event_of_decision (filter names ds))) (sym differs.decisions)
    (zip_same R (item_same selected) (map event_of_decision (filter names incoming.decisions))) in
    let of_sender : (s : ℕ) → s < senders → AllZip R (items_of setup incoming intake.answered s) (lists s) =
    five (λ s. AllZip R (items_of setup incoming intake.answered s) (lists s))
    (items-for selected (intake.answered 0) (answered 0) (for 0 (lit< tt))) (items-for selected (intake.answered 1) (answered 1) (for 1 (lit< tt)))
    (items-for selected (intake.answered 2) (answered 2) (for 2 (lit< tt))) (items-for selected (intake.answered 3) (answered 3) (for 3 (lit< tt)))
    same_decisions in
    let merge = merged-for R order intake.items lists intake.merged.named intake.merged.paired
    (λ s below. subst (λ (t : List Event). AllZip R t (lists s)) (sym (intake.merged.lists_are s below)) (of_sender s below)) in
    record {
      taken = record { answered = answered; lanes = made.1; items = merge.0; merged = merge.1 };
      answer_for = for;
      items_for = merge.2;
    }

-- a flow to which the same comes gives the same
flow-agrees : (rule : LossRule) (check : List ℕ → Bool) (flow : RuledFlow) (flow_record : FlowRecord) (comings more : List Coming) (one other : FlowOutcome)
    → more ≡ comings → IsRuledOutcome rule check flow flow_record comings one → IsRuledOutcome rule check flow flow_record more other → GaveTheSame one other
flow-agrees rule check flow flow_record comings more one other same p q =
    let ruled = subst (λ (cs : List Coming). AreRuled rule flow cs q.events q.lasts q.fates) same q.ruled in
    let events = (rules-once rule flow (no_lasts flow) no_fates comings p.events q.events p.lasts q.lasts p.fates q.fates (reached-none flow.first flow.width) p.ruled ruled).0 in
    let gave : IsOutcomeOfFlow check flow_record p.events other = subst (λ (es : List FlowEvent). IsOutcomeOfFlow check flow_record es other) (sym events) q.gave in
    let gives = p.gave.gives in
    let again = gave.gives in
    let both = closed-outcome check flow_record gives.n again.n p.events one.frames.items other.frames.items one.counts other.counts (Joins-once check)
    gives.outcome again.outcome gives.closed again.closed in
    record { sfid = p.gave.sfid ∙ sym gave.sfid; frames = both.0; counts = both.1 }

-- no list of requests is of a channel at the limit or above it
none_past : (outcome : Outcome) (channel : ℕ) → length outcome.requests ≡ channel_limit → channel_limit ≤ channel → requests_on outcome channel ≡ []
none_past outcome channel long past =
    let size = length-map outcome.requests (λ requests. requests.items) in
    get_or_past (map (λ requests. requests.items) outcome.requests) channel [] (omega (arith, size, long, past))

-- so requests that are the same below the limit are the same on every channel
on-every : (outcome other : Outcome) → length outcome.requests ≡ channel_limit → length other.requests ≡ channel_limit
    → ((channel : ℕ) → channel < channel_limit → requests_on outcome channel ≡ requests_on other channel)
    → (channel : ℕ) → requests_on outcome channel ≡ requests_on other channel
on-every outcome other long as_long each channel = elim (cases_lt channel channel_limit) [
  | inl below ↦ each channel below
  | inr past ↦ none_past outcome channel long past ∙ sym (none_past other channel as_long past)
]

-- outcomes agree
pub outcomes-agree : (selected : ℕ → Bool) (rule : LossRule) (check : List ℕ → Bool) (setup : Setup) (incoming other : Incoming) (order : List ℕ) (outcome another : Outcome)
    → CanReceive setup → DiffersElsewhere selected setup incoming other → IsOutcomeBy rule check setup incoming order outcome → IsOutcomeBy rule check setup other order another
    → AgreesOn selected outcome another
outcomes-agree selected rule check setup incoming other order outcome another can differs is are =
    let made = other_intake selected setup incoming other order is.intake can differs in
    let answered = one-answered setup other order can made.taken are.intake in
    let items = one-items setup other order can made.taken are.intake in
    let answer_for : (channel : ℕ) → channel < channel_limit → AllZip (AnswersInPlaceOf selected) (is.intake.answered channel) (are.intake.answered channel) =
    λ channel below. subst (λ (t : List AnsweredInput). AllZip (AnswersInPlaceOf selected) (is.intake.answered channel) t) (answered channel below) (made.answer_for channel below) in
    let items_for : AllZip (IsItemFor selected) is.intake.items are.intake.items =
    subst (λ (t : List Event). AllZip (IsItemFor selected) is.intake.items t) items made.items_for in
    record {
      count = is.flows.count ∙ sym are.flows.count;
      flows = λ k flow again chosen there here.
          let size = is.flows.count in
          let within = slice_get_within outcome.flows.items k flow there in
          let flow_record = element_at setup.flows.items k (omega arith) in
          let p = is.flows.each k flow_record.0 flow_record.1 in
          let q = are.flows.each k flow_record.0 flow_record.1 in
          let same_p : p.0 ≡ flow = same_Some p.0 flow (sym p.1 ∙ there) in
          let same_q : q.0 ≡ again = same_Some q.0 again (sym q.1 ∙ here) in
          let agrees = flow-agrees rule check (ruled_flow setup.sids.items k flow_record.0) flow_record.0 (comings_at k order is.intake.items) (comings_at k order are.intake.items) p.0 q.0
          (comings-same selected k order is.intake.items are.intake.items chosen items_for) p.2 q.2 in
          subst (λ (f : FlowOutcome). GaveTheSame flow f) same_q (subst (λ (f : FlowOutcome). GaveTheSame f q.0) same_p agrees);
      request_lists = is.request_lists ∙ sym are.request_lists;
      requests = on-every outcome another is.request_lists are.request_lists (λ channel below.
          is.requests channel below ∙ sym (requests-same selected (is.intake.answered channel) (are.intake.answered channel) (answer_for channel below)) ∙ sym (are.requests channel below));
      report_count = is.report_count ∙ sym are.report_count;
      reports = λ channel report again there here.
          let below : channel < channel_limit = omega (arith, slice_get_within outcome.lanes channel report there, is.report_count) in
          let p = is.reports channel report below there in
          let q = are.reports channel again below here in
          record {
            admitted = p.admitted ∙ sym (count-same selected (is.intake.answered channel) (are.intake.answered channel) (answer_for channel below)) ∙ sym q.admitted;
            refused = p.refused ∙ sym (refused-same selected (is.intake.answered channel) (are.intake.answered channel) (answer_for channel below)) ∙ sym q.refused;
          };
      order = is.order_is ∙ sym are.order_is;
    }
