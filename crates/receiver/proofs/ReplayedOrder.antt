-- A replay whose lists were handed in whole: its order is lawful, or at fault where an item was
-- missing or left over.
use Rattle.std.proofs.Common.{◌≡◌, ℕ, ◌<◌, ◌≤◌, inl, inr, ⊎_elim, Bool, true, false, ◌==◌, nat_lt, cond, Some, None, All, List, [], ◌∷◌, ◌++◌, is_some, length, map, filter, take, slice_index_or, refl, sym, ap, subst, ◌∙◌, arith, length-append, append-nil}
use Rattle.std.proofs.lemmas.Bool.{cases_lt, lt-ltb, ltb-true, true≢false}
use Rattle.std.proofs.lemmas.List.{length-map, take_all, nil_from_length}
use Rattle.std.proofs.lemmas.List.Elements.{All-nil, All-cons, All-head, All-tail, filter-append}
use Rattle.std.proofs.lemmas.List.Sums.{sum_by-append}
use Rattle.std.proofs.lemmas.Option.{slice_get_cases}
use Rattle.flow_records.specs.declared.decision.Decision.{Decision}
use Rattle.flow_records.specs.declared.event.Event.{Event}
use Rattle.flow_records.specs.Decisions.{names_a_flow, event_of_decision}
use Rattle.lane.specs.declared.input.Input.{Input}
use Rattle.lane.specs.Limits.{channel_limit, senders}
use Rattle.lane.specs.Inputs.{AnsweredInput, AreAnswered, inputs_of}
use Rattle.lane.specs.Report.{admitted_by, admitted_of, event_of_admitted}
use Rattle.loss_rule.specs.declared.rule.LossRule.{LossRule}
use Rattle.receiver.specs.declared.setup.Setup.{Setup}
use Rattle.receiver.specs.declared.outcome.Outcome.{Outcome}
use Rattle.receiver.specs.declared.playing.Playing.{Playing}
use Rattle.receiver.specs.Items.{Incoming, AreLanesOf, lane_setup, items_of, are_items}
use Rattle.receiver.specs.Order.{times_of, picked, kept_places, lengths_of, IsMergeOf, IsLawfulOrder}
use Rattle.receiver.specs.AdmittedOrder.{IsAdmittedOrder, input_counts}
use Rattle.receiver.specs.Ruled.{IsOutcomeBy}
use Rattle.receiver.specs.Faults.{HasBadOrder}
use Rattle.receiver.specs.HandedIn.{HandedIn, came, answered_on}
use Rattle.receiver.specs.HandedOrder.{sender_of, IsSent, gives_item, items_in, order_of, handed_by, handed_decision, count_from, IsHandedFrom, IsUsedUp}
use Rattle.receiver.specs.Playing.{Plays, PlaysMore, PlaysTags, FindsNone, IsGiven}
use Rattle.receiver.proofs.Senders.{five}
use Rattle.receiver.proofs.MergedLists.{merge-lawful, times-picked}
use Rattle.receiver.proofs.OrderPlaces.{fault-behind, fault-end}
use Rattle.receiver.proofs.HandedOrder.{sent-named, picked-by, order-paired, order-named, order-append, items-came, item-decided, items-decided, came-by}
use Rattle.receiver.proofs.PlayingTurns.{admitted-item}

-- nothing is handed in at first
pub from-nothing : (incoming : Incoming) (places : List ℕ) → length places ≡ senders → ((sender : ℕ) → slice_index_or places sender 0 ≡ 0) → IsHandedFrom incoming places []
from-nothing incoming places count none = record {
  five = count;
  sent = All-nil IsSent;
  inputs = λ channel below. ap (λ (place : ℕ). take place (incoming.inputs channel)) (sym (none channel));
  decisions = ap (λ (place : ℕ). map handed_decision (take place incoming.decisions)) (sym (none channel_limit));
}

-- how much a channel has
pub count-channel : (incoming : Incoming) (channel : ℕ) → channel < channel_limit → count_from incoming channel ≡ length (incoming.inputs channel)
count-channel incoming channel below = ap (λ (b : Bool). cond b (length (incoming.inputs channel)) (length incoming.decisions)) (lt-ltb channel channel_limit below)

module _ (incoming : Incoming) (places : List ℕ) (handed : List HandedIn) (from : IsHandedFrom incoming places handed) where
  -- what is used up was handed in whole
  whole-channel : (channel : ℕ) → channel < channel_limit → IsUsedUp incoming places channel → inputs_of (answered_on channel handed) ≡ incoming.inputs channel
  whole-channel channel below used =
      from.inputs channel below
      ∙ take_all (slice_index_or places channel 0) (incoming.inputs channel) (subst (λ (n : ℕ). n ≤ slice_index_or places channel 0) (count-channel incoming channel below) used)

  whole-decisions : IsUsedUp incoming places channel_limit → handed_by channel_limit handed ≡ map handed_decision incoming.decisions
  whole-decisions used = from.decisions ∙ ap (map handed_decision) (take_all (slice_index_or places channel_limit 0) incoming.decisions used)

  -- and so much of it
  count-handed : (sender : ℕ) → sender < senders → IsUsedUp incoming places sender → length (handed_by sender handed) ≡ count_from incoming sender
  count-handed sender named used =
      ⊎_elim
      (λ (below : sender < channel_limit).
      ap (λ (t : List HandedIn). length t) (came-by sender below handed from.sent)
      ∙ length-map (answered_on sender handed) (came sender)
      ∙ sym (length-map (answered_on sender handed) (λ (one : AnsweredInput). one.input))
      ∙ ap (λ (t : List Input). length t) (whole-channel sender below used)
      ∙ sym (count-channel incoming sender below))
      (λ (beyond : channel_limit ≤ sender).
      let is : channel_limit ≡ sender = omega (arith, named, beyond) in
      subst (λ (s : ℕ). IsUsedUp incoming places s → length (handed_by s handed) ≡ count_from incoming s) is
      (λ all. ap (λ (t : List HandedIn). length t) (whole-decisions all) ∙ length-map incoming.decisions handed_decision) used)
      (cases_lt sender channel_limit)

-- of all that was handed in, what came from a sender
tags-picked : {X : Type 0} (f : HandedIn → X) (sender : ℕ) (handed : List HandedIn) → picked sender (map sender_of handed) (map f handed) ≡ map f (handed_by sender handed)
tags-picked f sender [] = refl
tags-picked {X} f sender (one ∷ handed) = either (tags-picked f sender handed) (sender == sender_of one)
  where
    either : picked sender (map sender_of handed) (map f handed) ≡ map f (handed_by sender handed) → (own : Bool)
        → cond own (f one ∷ picked sender (map sender_of handed) (map f handed)) (picked sender (map sender_of handed) (map f handed))
        ≡ map f (cond own (one ∷ handed_by sender handed) (handed_by sender handed))
    either rest true = ap (λ (t : List X). f one ∷ t) rest
    either rest false = rest

module _ (n : ℕ) where
  -- the places that are kept are those of items
  places-kept : (handed : List HandedIn) → kept_places (map sender_of handed) (map (gives_item n) handed) ≡ order_of n handed
  places-kept [] = refl
  places-kept (one ∷ handed) = either (places-kept handed) (gives_item n one)
    where
      either : kept_places (map sender_of handed) (map (gives_item n) handed) ≡ order_of n handed → (own : Bool)
          → cond own (sender_of one ∷ kept_places (map sender_of handed) (map (gives_item n) handed)) (kept_places (map sender_of handed) (map (gives_item n) handed))
          ≡ map sender_of (cond own (one ∷ filter (gives_item n) handed) (filter (gives_item n) handed))
      either rest true = ap (λ (t : List ℕ). sender_of one ∷ t) rest
      either rest false = rest

  flags-came : (channel : ℕ) (answered : List AnsweredInput) → map (gives_item n) (map (came channel) answered) ≡ map (λ one. is_some (admitted_by one.answer)) answered
  flags-came channel [] = refl
  flags-came channel (one ∷ answered) =
      ap (λ (b : Bool). b ∷ map (gives_item n) (map (came channel) answered)) (sym (admitted-item n channel one))
      ∙ ap (λ (t : List Bool). is_some (admitted_by one.answer) ∷ t) (flags-came channel answered)

  flag-decided : (decision : Decision) → gives_item n (handed_decision decision) ≡ names_a_flow n decision
  flag-decided decision = ap is_some (item-decided n decision.flow decision.upto) ∙ either (names_a_flow n decision)
    where
      either : (names : Bool) → is_some (cond names (Some (event_of_decision decision)) None) ≡ names
      either true = refl
      either false = refl

  flags-decided : (decisions : List Decision) → map (gives_item n) (map handed_decision decisions) ≡ map (names_a_flow n) decisions
  flags-decided [] = refl
  flags-decided (decision ∷ decisions) =
      ap (λ (b : Bool). b ∷ map (gives_item n) (map handed_decision decisions)) (flag-decided decision)
      ∙ ap (λ (t : List Bool). names_a_flow n decision ∷ t) (flags-decided decisions)

  tags-named : (handed : List HandedIn) → All IsSent handed → All (λ tag. tag < senders) (map sender_of handed)
  tags-named [] sent = All-nil (λ tag. tag < senders)
  tags-named (one ∷ handed) sent =
      All-cons (λ tag. tag < senders) (sender_of one) (map sender_of handed) (sent-named one (All-head IsSent one handed sent)) (tags-named handed (All-tail IsSent one handed sent))

module _ (setup : Setup) (incoming : Incoming) (places : List ℕ) (handed : List HandedIn) (from : IsHandedFrom incoming places handed)
    (all : (sender : ℕ) → sender < senders → IsUsedUp incoming places sender) where
  -- the items of a channel, and those of decisions
  channel-items : (channel : ℕ) → channel < channel_limit
      → picked channel (order_of (length setup.flows.items) handed) (items_in (length setup.flows.items) handed) ≡ map event_of_admitted (admitted_of (answered_on channel handed))
  channel-items channel below =
      picked-by (length setup.flows.items) channel handed
      ∙ ap (items_in (length setup.flows.items)) (came-by channel below handed from.sent)
      ∙ items-came (length setup.flows.items) channel (answered_on channel handed)

  -- **The items are the merge of all that was handed in**, in the order in which it was.
  pub handed-merge : IsMergeOf (items_of setup incoming (λ channel. answered_on channel handed)) (order_of (length setup.flows.items) handed) (items_in (length setup.flows.items) handed)
  handed-merge = record {
    named = order-named (length setup.flows.items) handed from.sent;
    paired = order-paired (length setup.flows.items) handed;
    lists_are = five
        (λ sender. picked sender (order_of (length setup.flows.items) handed) (items_in (length setup.flows.items) handed) ≡ items_of setup incoming (λ channel. answered_on channel handed) sender)
        (channel-items 0 (omega arith)) (channel-items 1 (omega arith)) (channel-items 2 (omega arith)) (channel-items 3 (omega arith))
        (picked-by (length setup.flows.items) channel_limit handed
        ∙ ap (items_in (length setup.flows.items)) (whole-decisions incoming places handed from (all channel_limit (omega arith)))
        ∙ items-decided (length setup.flows.items) incoming.decisions);
  }

  pub handed-lanes : ((channel : ℕ) → channel < channel_limit → AreAnswered (lane_setup setup channel) (answered_on channel handed))
      → AreLanesOf setup incoming (λ channel. answered_on channel handed)
  handed-lanes answers channel below = record {
    answers = answers channel below;
    inputs = whole-channel incoming places handed from channel below (all channel (omega (arith, below)));
  }

  -- and the order of the items is the admitted order of the senders of all that was handed in
  pub handed-admitted : ((channel : ℕ) → channel < channel_limit → AreAnswered (lane_setup setup channel) (answered_on channel handed))
      → IsAdmittedOrder setup incoming (map sender_of handed) (order_of (length setup.flows.items) handed)
  handed-admitted answers = record {
    answered = λ channel. answered_on channel handed;
    lanes = handed-lanes answers;
    flags = map (gives_item (length setup.flows.items)) handed;
    merged = record {
      named = tags-named (length setup.flows.items) handed from.sent;
      paired = length-map handed sender_of ∙ sym (length-map handed (gives_item (length setup.flows.items)));
      lists_are = five
          (λ sender. picked sender (map sender_of handed) (map (gives_item (length setup.flows.items)) handed) ≡ are_items setup incoming (λ channel. answered_on channel handed) sender)
          (channel-flags 0 (omega arith)) (channel-flags 1 (omega arith)) (channel-flags 2 (omega arith)) (channel-flags 3 (omega arith))
          (tags-picked (gives_item (length setup.flows.items)) channel_limit handed
          ∙ ap (map (gives_item (length setup.flows.items))) (whole-decisions incoming places handed from (all channel_limit (omega arith)))
          ∙ flags-decided (length setup.flows.items) incoming.decisions);
    };
    order_is = sym (places-kept (length setup.flows.items) handed);
  }
    where
      channel-flags : (channel : ℕ) → channel < channel_limit
          → picked channel (map sender_of handed) (map (gives_item (length setup.flows.items)) handed) ≡ map (λ one. is_some (admitted_by one.answer)) (answered_on channel handed)
      channel-flags channel below =
          tags-picked (gives_item (length setup.flows.items)) channel handed
          ∙ ap (map (gives_item (length setup.flows.items))) (came-by channel below handed from.sent)
          ∙ flags-came (length setup.flows.items) channel (answered_on channel handed)

  handed-lawful : IsLawfulOrder (lengths_of (items_of setup incoming (λ channel. answered_on channel handed))) (order_of (length setup.flows.items) handed)
  handed-lawful =
      merge-lawful (items_of setup incoming (λ channel. answered_on channel handed)) (order_of (length setup.flows.items) handed) (items_in (length setup.flows.items) handed) handed-merge

  -- what was given for it is the outcome
  pub handed-outcome : (rule : LossRule) (check : List ℕ → Bool) (outcome : Outcome) → IsGiven rule check setup handed outcome
      → outcome.order.items ≡ order_of (length setup.flows.items) handed → IsOutcomeBy rule check setup incoming (order_of (length setup.flows.items) handed) outcome
  handed-outcome rule check outcome given order = record {
    intake = record {
      answered = λ channel. answered_on channel handed;
      lanes = handed-lanes given.answers;
      items = items_in (length setup.flows.items) handed;
      merged = handed-merge;
    };
    flows = given.flows;
    request_lists = given.request_lists;
    requests = given.requests;
    report_count = given.report_count;
    reports = given.reports;
    order_is = order;
  }

-- of a sender of which all was handed in before nothing comes
nothing-more : (n : ℕ) (incoming : Incoming) (places others : List ℕ) (handed more : List HandedIn) → IsHandedFrom incoming places handed → IsHandedFrom incoming others (handed ++ more)
    → (sender : ℕ) → sender < senders → IsUsedUp incoming places sender → IsUsedUp incoming others sender → times_of sender (order_of n more) ≡ 0
nothing-more n incoming places others handed more from also sender named used all =
    let before = count-handed incoming places handed from sender named used in
    let after = count-handed incoming others (handed ++ more) also sender named all in
    let both = ap (λ (t : List HandedIn). length t) (filter-append (λ (one : HandedIn). sender == sender_of one) handed more) ∙ length-append (handed_by sender handed) (handed_by sender more) in
    let none : handed_by sender more ≡ [] = nil_from_length (handed_by sender more) (omega arith) in
    times-picked sender (order_of n more) (items_in n more) (order-paired n more)
    ∙ ap (λ (t : List Event). length t) (picked-by n sender more ∙ ap (items_in n) none)

-- the answers of all lanes
pub all-answered : {C : Type 0} (accepts : C → List ℕ → Bool) (rule : LossRule) (check : List ℕ → Bool) (setup : Setup) (playing : Playing C) (handed : List HandedIn)
    → Plays accepts rule check setup playing handed → (channel : ℕ) → channel < channel_limit → AreAnswered (lane_setup setup channel) (answered_on channel handed)
all-answered accepts rule check setup playing handed plays channel below =
    let lanes = playing.receiver.lanes.items in
    ⊎_elim
    (λ one. (plays.stands.lanes.each channel one.0 one.2).stands.answered)
    (λ (past : (length lanes ≤ channel) × _). absurd (let long = past.0 in let count = plays.stands.lanes.count in omega (arith, below)))
    (slice_get_cases lanes channel).1

module _ {C : Type 0} (accepts : C → List ℕ → Bool) (rule : LossRule) (check : List ℕ → Bool) (setup : Setup) (incoming : Incoming) (first second third : Playing C)
    (plays : Plays accepts rule check setup first []) (from : IsHandedFrom incoming first.places []) (order rest : List ℕ)
    (before : PlaysMore accepts incoming first order second) (then : PlaysMore accepts incoming second rest third)
    (all : (sender : ℕ) → sender < senders → IsUsedUp incoming third.places sender) where
  -- all that was handed in
  pub all-handed : (handed : List HandedIn) × Plays accepts rule check setup third handed
  all-handed =
      let one = before rule check setup [] plays from in
      let two = then rule check setup one.0 one.1 one.2 in (one.0 ++ two.0, two.1)

  -- nothing was left over
  pub replayed : nat_lt 0 (length rest) ≡ false → (outcome : Outcome)
      → ((handed : List HandedIn) → Plays accepts rule check setup third handed → All IsSent handed → IsGiven rule check setup handed outcome)
      → outcome.order.items ≡ order → IsOutcomeBy rule check setup incoming order outcome
  replayed none outcome gives order_is =
      let one = before rule check setup [] plays from in
      let two = then rule check setup one.0 one.1 one.2 in
      let nothing : rest ≡ [] = no-rest rest none in
      let is : order_of (length setup.flows.items) (one.0 ++ two.0) ≡ order =
      order-append (length setup.flows.items) one.0 two.0 ∙ ap (λ (t : List ℕ). t ++ order_of (length setup.flows.items) two.0) one.3
      ∙ ap (λ (t : List ℕ). order ++ t) (two.3 ∙ nothing) ∙ append-nil order in
      subst (λ (t : List ℕ). IsOutcomeBy rule check setup incoming t outcome) is
      (handed-outcome setup incoming third.places (one.0 ++ two.0) two.2 all rule check outcome (gives (one.0 ++ two.0) two.1 two.2.sent) (order_is ∙ sym is))
    where
      no-rest : (others : List ℕ) → nat_lt 0 (length others) ≡ false → others ≡ []
      no-rest [] none = refl
      no-rest (tag ∷ others) none = absurd (true≢false (sym (lt-ltb 0 (length (tag ∷ others)) (omega arith)) ∙ none))

  -- an item was left over
  pub left-over : nat_lt 0 (length rest) ≡ true → HasBadOrder setup incoming order (length order)
  left-over some =
      let one = before rule check setup [] plays from in
      let two = then rule check setup one.0 one.1 one.2 in
      let is : order_of (length setup.flows.items) (one.0 ++ two.0) ≡ order ++ rest =
      order-append (length setup.flows.items) one.0 two.0 ∙ ap (λ (t : List ℕ). t ++ order_of (length setup.flows.items) two.0) one.3 ∙ ap (λ (t : List ℕ). order ++ t) two.3 in
      record {
        answered = λ channel. answered_on channel (one.0 ++ two.0);
        lanes = handed-lanes setup incoming third.places (one.0 ++ two.0) two.2 all (all-answered accepts rule check setup third (one.0 ++ two.0) two.1);
        fault = fault-end (lengths_of (items_of setup incoming (λ channel. answered_on channel (one.0 ++ two.0)))) order rest
            (subst (λ (t : List ℕ). IsLawfulOrder (lengths_of (items_of setup incoming (λ channel. answered_on channel (one.0 ++ two.0)))) t) is
            (handed-lawful setup incoming third.places (one.0 ++ two.0) two.2 all)) (ltb-true 0 (length rest) some);
      }

  -- no item was there at a place of an order that begins so
  pub none-there : (others : List ℕ) → FindsNone incoming (order ++ others) (length order) second.places → HasBadOrder setup incoming (order ++ others) (length order)
  none-there others found =
      let one = before rule check setup [] plays from in
      let two = then rule check setup one.0 one.1 one.2 in
      let is : order_of (length setup.flows.items) (one.0 ++ two.0) ≡ order ++ rest =
      order-append (length setup.flows.items) one.0 two.0 ∙ ap (λ (t : List ℕ). t ++ order_of (length setup.flows.items) two.0) one.3 ∙ ap (λ (t : List ℕ). order ++ t) two.3 in
      let lengths = lengths_of (items_of setup incoming (λ channel. answered_on channel (one.0 ++ two.0))) in
      let lawful : IsLawfulOrder lengths (order ++ rest) = subst (IsLawfulOrder lengths) is (handed-lawful setup incoming third.places (one.0 ++ two.0) two.2 all) in
      record {
        answered = λ channel. answered_on channel (one.0 ++ two.0);
        lanes = handed-lanes setup incoming third.places (one.0 ++ two.0) two.2 all (all-answered accepts rule check setup third (one.0 ++ two.0) two.1);
        fault = fault-behind lengths order rest lawful others found.tag found.at
            (⊎_elim
            (λ (unnamed : senders ≤ found.tag). inl unnamed)
            (λ (used : IsUsedUp incoming second.places found.tag).
            ⊎_elim
            (λ (named : found.tag < senders).
            let none : times_of found.tag rest ≡ 0 =
            ap (times_of found.tag) (sym two.3) ∙ nothing-more (length setup.flows.items) incoming second.places third.places one.0 two.0 one.2 two.2 found.tag named used (all found.tag named) in
            let whole = lawful.whole found.tag named in
            let both = sum_by-append (λ t. cond {A = ℕ} (t == found.tag) 1 0) order rest in
            inr (omega arith))
            (λ (unnamed : senders ≤ found.tag). inl unnamed)
            (cases_lt found.tag senders))
            found.none);
      }

-- how much each sender has
pub counts-are : (incoming : Incoming) (sender : ℕ) → sender < senders → slice_index_or (input_counts incoming) sender 0 ≡ count_from incoming sender
counts-are incoming = five (λ sender. slice_index_or (input_counts incoming) sender 0 ≡ count_from incoming sender) refl refl refl refl refl

module _ {C : Type 0} (accepts : C → List ℕ → Bool) (rule : LossRule) (check : List ℕ → Bool) (setup : Setup) (incoming : Incoming) (first after : Playing C)
    (plays : Plays accepts rule check setup first []) (from : IsHandedFrom incoming first.places []) (tags order : List ℕ)
    (takes : PlaysTags accepts incoming first tags order after)
    (all : (sender : ℕ) → sender < senders → IsUsedUp incoming after.places sender) where
  -- all that was handed in by tags
  pub tags-handed : (handed : List HandedIn) × Plays accepts rule check setup after handed
  tags-handed = let one = takes rule check setup [] plays from in (one.0, one.1)

  pub tags-admitted : IsAdmittedOrder setup incoming tags order
  tags-admitted =
      let one = takes rule check setup [] plays from in
      subst (λ (t : List ℕ). IsAdmittedOrder setup incoming tags t) one.4
      (subst (λ (t : List ℕ). IsAdmittedOrder setup incoming t (order_of (length setup.flows.items) one.0)) one.3
      (handed-admitted setup incoming after.places one.0 one.2 all (all-answered accepts rule check setup after one.0 one.1)))

  pub tags-replayed : (outcome : Outcome) → ((handed : List HandedIn) → Plays accepts rule check setup after handed → All IsSent handed → IsGiven rule check setup handed outcome)
      → outcome.order.items ≡ order → IsOutcomeBy rule check setup incoming order outcome
  tags-replayed outcome gives order_is =
      let one = takes rule check setup [] plays from in
      subst (λ (t : List ℕ). IsOutcomeBy rule check setup incoming t outcome) one.4
      (handed-outcome setup incoming after.places one.0 one.2 all rule check outcome (gives one.0 one.1 one.2.sent) (order_is ∙ sym one.4))
