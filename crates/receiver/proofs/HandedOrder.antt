-- In what order things come that are handed in.
use Rattle.std.proofs.Common.{◌≡◌, ◌≢◌, ℕ, suc, ◌<◌, ⊎_elim, Bool, true, false, cond, Option, Some, None, All, List, [], ◌∷◌, ◌++◌, ◌==◌, ◌&&◌, nat_lt, length, map, filter, is_some, eq-eqb, ne_eqb, refl, sym, ap, ◌∙◌, arith}
use Rattle.std.specs.List.{cons_option}
use Rattle.std.specs.Option.{option_map}
use Rattle.std.proofs.lemmas.Bool.{cases_eq}
use Rattle.std.proofs.lemmas.List.{map-append}
use Rattle.std.proofs.lemmas.List.Elements.{All-nil, All-cons, All-head, All-tail, filter-append, filter_map-append}
use Rattle.flow_records.specs.declared.decision.Decision.{Decision}
use Rattle.flow_records.specs.declared.event.Event.{Event}
use Rattle.flow_records.specs.Decisions.{gap_of, names_a_number, names_a_flow, event_of_decision}
use Rattle.lane.specs.declared.admitted.Admitted.{Admitted}
use Rattle.lane.specs.Limits.{channel_limit, senders}
use Rattle.lane.specs.Inputs.{AnsweredInput}
use Rattle.lane.specs.Report.{admitted_by, admitted_of, event_of_admitted}
use Rattle.bonded_flows.specs.declared.decision.FlowDecision.{FlowDecision}
use Rattle.bonded_flows.specs.declared.decision.FlowDecision.TheVariants.{Gap, GapTo, SkipTo}
use Rattle.bonded_flows.specs.ByRule.{is_in_range}
use Rattle.bonded_flows.specs.Table.{TableInput}
use Rattle.receiver.specs.Order.{picked}
use Rattle.receiver.specs.HandedIn.{HandedIn, came, decided, restarted, answered_on, arrives_on, decides_of, flow_inputs}
use Rattle.receiver.specs.HandedOrder.{sender_of, IsSent, event_decided, item_in, gives_item, items_in, order_of, handed_by, flow_decision, handed_decision}
use Rattle.receiver.specs.TakenInOrder.{table_input_of, table_inputs}

-- its sender is one of the five
pub sent-named : (one : HandedIn) → IsSent one → sender_of one < senders
sent-named (came channel one) sent = omega (arith, sent)
sent-named (decided flow decision) sent = omega arith
sent-named (restarted flow first) sent = absurd sent

module _ (n : ℕ) where
  -- the items of a sender are those of what came from it
  pub picked-by : (sender : ℕ) (handed : List HandedIn) → picked sender (order_of n handed) (items_in n handed) ≡ items_in n (handed_by sender handed)
  picked-by sender [] = refl
  picked-by sender (one ∷ handed) = either (picked-by sender handed) (item_in n one) refl
    where
      here : picked sender (order_of n handed) (items_in n handed) ≡ items_in n (handed_by sender handed) → (item : Event) → item_in n one ≡ Some item → (own : Bool)
          → cond own (item ∷ picked sender (order_of n handed) (items_in n handed)) (picked sender (order_of n handed) (items_in n handed))
          ≡ items_in n (cond own (one ∷ handed_by sender handed) (handed_by sender handed))
      here rest item is true = ap (λ (t : List Event). item ∷ t) rest ∙ ap (λ (o : Option Event). cons_option o (items_in n (handed_by sender handed))) (sym is)
      here rest item is false = rest

      there : picked sender (order_of n handed) (items_in n handed) ≡ items_in n (handed_by sender handed) → item_in n one ≡ None → (own : Bool)
          → picked sender (order_of n handed) (items_in n handed) ≡ items_in n (cond own (one ∷ handed_by sender handed) (handed_by sender handed))
      there rest is true = rest ∙ ap (λ (o : Option Event). cons_option o (items_in n (handed_by sender handed))) (sym is)
      there rest is false = rest

      either : picked sender (order_of n handed) (items_in n handed) ≡ items_in n (handed_by sender handed) → (item : Option Event) → item_in n one ≡ item
          → picked sender (map sender_of (cond (is_some item) (one ∷ filter (gives_item n) handed) (filter (gives_item n) handed))) (cons_option item (items_in n handed))
          ≡ items_in n (handed_by sender (one ∷ handed))
      either rest (Some item) is = here rest item is (sender == sender_of one)
      either rest None is = there rest is (sender == sender_of one)

  -- as many senders as items
  pub order-paired : (handed : List HandedIn) → length (order_of n handed) ≡ length (items_in n handed)
  order-paired [] = refl
  order-paired (one ∷ handed) = either (order-paired handed) (item_in n one)
    where
      either : length (order_of n handed) ≡ length (items_in n handed) → (item : Option Event)
          → length (map sender_of (cond (is_some item) (one ∷ filter (gives_item n) handed) (filter (gives_item n) handed))) ≡ length (cons_option item (items_in n handed))
      either rest (Some item) = ap suc rest
      either rest None = rest

  -- and each is one of the five
  pub order-named : (handed : List HandedIn) → All IsSent handed → All (λ tag. tag < senders) (order_of n handed)
  order-named [] sent = All-nil (λ tag. tag < senders)
  order-named (one ∷ handed) sent =
      either (order-named handed (All-tail IsSent one handed sent)) (sent-named one (All-head IsSent one handed sent)) (gives_item n one)
    where
      either : All (λ tag. tag < senders) (order_of n handed) → sender_of one < senders → (own : Bool)
          → All (λ tag. tag < senders) (map sender_of (cond own (one ∷ filter (gives_item n) handed) (filter (gives_item n) handed)))
      either rest first true = All-cons (λ tag. tag < senders) (sender_of one) (order_of n handed) first rest
      either rest first false = rest

  pub order-append : (handed more : List HandedIn) → order_of n (handed ++ more) ≡ order_of n handed ++ order_of n more
  order-append handed more =
      ap (map sender_of) (filter-append (gives_item n) handed more) ∙ map-append sender_of (filter (gives_item n) handed) (filter (gives_item n) more)

  pub items-append : (handed more : List HandedIn) → items_in n (handed ++ more) ≡ items_in n handed ++ items_in n more
  items-append handed more = filter_map-append (item_in n) handed more

  -- one more
  pub order-one : (one : HandedIn) → order_of n (one ∷ []) ≡ cond (gives_item n one) (sender_of one ∷ []) []
  order-one one = either (gives_item n one)
    where
      either : (own : Bool) → map sender_of (cond own (one ∷ []) []) ≡ cond own (sender_of one ∷ []) []
      either true = refl
      either false = refl

  -- the items of what came on a channel are the segments that it admitted
  pub items-came : (channel : ℕ) (answered : List AnsweredInput) → items_in n (map (came channel) answered) ≡ map event_of_admitted (admitted_of answered)
  items-came channel [] = refl
  items-came channel (one ∷ answered) = either (items-came channel answered) (admitted_by one.answer)
    where
      either : items_in n (map (came channel) answered) ≡ map event_of_admitted (admitted_of answered) → (admitted : Option Admitted)
          → cons_option (option_map event_of_admitted admitted) (items_in n (map (came channel) answered)) ≡ map event_of_admitted (cons_option admitted (admitted_of answered))
      either rest (Some admitted) = ap (λ (t : List Event). event_of_admitted admitted ∷ t) rest
      either rest None = rest

  -- a decision gives an item exactly if it names a flow
  pub item-decided : (flow : ℕ) (upto : Option ℕ)
      → item_in n (decided flow (flow_decision upto)) ≡ cond (nat_lt flow n && names_a_number upto) (Some (gap_of flow upto)) None
  item-decided flow None = refl
  item-decided flow (Some number) = refl

  pub items-decided : (decisions : List Decision) → items_in n (map handed_decision decisions) ≡ map event_of_decision (filter (names_a_flow n) decisions)
  items-decided [] = refl
  items-decided (decision ∷ decisions) =
      ap (λ (o : Option Event). cons_option o (items_in n (map handed_decision decisions))) (item-decided decision.flow decision.upto)
      ∙ either (items-decided decisions) (names_a_flow n decision)
    where
      either : items_in n (map handed_decision decisions) ≡ map event_of_decision (filter (names_a_flow n) decisions) → (names : Bool)
          → cons_option (cond names (Some (event_of_decision decision)) None) (items_in n (map handed_decision decisions))
          ≡ map event_of_decision (cond names (decision ∷ filter (names_a_flow n) decisions) (filter (names_a_flow n) decisions))
      either rest true = ap (λ (t : List Event). event_of_decision decision ∷ t) rest
      either rest false = rest

  -- what is handed in of the flows are the items, in their order
  pub inputs-taken : (handed : List HandedIn) → All IsSent handed → flow_inputs n handed ≡ table_inputs (order_of n handed) (items_in n handed)
  inputs-taken [] sent = refl
  inputs-taken (came channel one ∷ handed) sent = either (inputs-taken handed (All-tail IsSent (came channel one) handed sent)) (admitted_by one.answer)
    where
      either : flow_inputs n handed ≡ table_inputs (order_of n handed) (items_in n handed) → (admitted : Option Admitted)
          → cons_option (option_map (arrives_on channel) admitted) (flow_inputs n handed)
          ≡ table_inputs (map sender_of (cond (is_some (option_map event_of_admitted admitted)) (came channel one ∷ filter (gives_item n) handed) (filter (gives_item n) handed)))
          (cons_option (option_map event_of_admitted admitted) (items_in n handed))
      either rest (Some admitted) = ap (λ (t : List TableInput). arrives_on channel admitted ∷ t) rest
      either rest None = rest
  inputs-taken (decided flow decision ∷ handed) sent =
      either (inputs-taken handed (All-tail IsSent (decided flow decision) handed sent)) (is decision) (nat_lt flow n && is_in_range decision)
    where
      is : (lost : FlowDecision) → decides_of flow lost ≡ table_input_of channel_limit (event_decided flow lost)
      is Gap = refl
      is (GapTo number) = refl
      is (SkipTo number) = refl

      either : flow_inputs n handed ≡ table_inputs (order_of n handed) (items_in n handed)
          → decides_of flow decision ≡ table_input_of channel_limit (event_decided flow decision) → (named : Bool)
          → cons_option (cond named (Some (decides_of flow decision)) None) (flow_inputs n handed)
          ≡ table_inputs (map sender_of (cond (is_some (cond {A = Option Event} named (Some (event_decided flow decision)) None)) (decided flow decision ∷ filter (gives_item n) handed) (filter (gives_item n) handed)))
          (cons_option (cond named (Some (event_decided flow decision)) None) (items_in n handed))
      either rest same true =
          ap (λ (t : TableInput). t ∷ flow_inputs n handed) same ∙ ap (λ (t : List TableInput). table_input_of channel_limit (event_decided flow decision) ∷ t) rest
      either rest same false = rest
  inputs-taken (restarted flow first ∷ handed) sent = absurd (All-head IsSent (restarted flow first) handed sent)

-- what came from a channel is what came on it
pub came-by : (channel : ℕ) → channel < channel_limit → (handed : List HandedIn) → All IsSent handed
    → handed_by channel handed ≡ map (came channel) (answered_on channel handed)
came-by channel below [] sent = refl
came-by channel below (came other one ∷ handed) sent =
    ⊎_elim
    (λ (same : channel ≡ other).
    ap (λ b. cond b (came other one ∷ handed_by channel handed) (handed_by channel handed)) (eq-eqb channel other same)
    ∙ ap (λ (t : List HandedIn). came other one ∷ t) (came-by channel below handed (All-tail IsSent (came other one) handed sent))
    ∙ ap (λ c. came c one ∷ map (came channel) (answered_on channel handed)) (sym same)
    ∙ ap (λ b. map (came channel) (cons_option (cond b (Some one) None) (answered_on channel handed))) (sym (eq-eqb other channel (sym same))))
    (λ (differ : channel ≢ other).
    ap (λ b. cond b (came other one ∷ handed_by channel handed) (handed_by channel handed)) (ne_eqb channel other differ)
    ∙ came-by channel below handed (All-tail IsSent (came other one) handed sent)
    ∙ ap (λ b. map (came channel) (cons_option (cond b (Some one) None) (answered_on channel handed))) (sym (ne_eqb other channel (λ same. differ (sym same)))))
    (cases_eq channel other)
came-by channel below (decided flow decision ∷ handed) sent =
    ap (λ b. cond b (decided flow decision ∷ handed_by channel handed) (handed_by channel handed)) (ne_eqb channel channel_limit (λ same. omega arith))
    ∙ came-by channel below handed (All-tail IsSent (decided flow decision) handed sent)
came-by channel below (restarted flow first ∷ handed) sent = absurd (All-head IsSent (restarted flow first) handed sent)
