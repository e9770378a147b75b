-- The order of merged lists is lawful, and so is the admitted order.
use Rattle.std.proofs.Common.{◌≡◌, ◌≢◌, ℕ, zero, suc, ◌+◌, ◌<◌, ⊎_elim, Bool, true, false, cond, Option, Some, None, All, List, [], ◌∷◌, length, map, filter, filter_map, count_by, is_some, slice_index_or, ◌==◌, nat_lt, eq-eqb, ne_eqb, lit<, if◌then◌else◌, refl, sym, ap, subst, ◌∙◌, arith}
use Rattle.std.specs.List.{cons_option}
use Rattle.std.proofs.lemmas.Bool.{cases_eq}
use Rattle.std.proofs.lemmas.List.{length-map}
use Rattle.std.proofs.lemmas.List.Elements.{All-nil, All-cons, All-head, All-tail}
use Rattle.std.proofs.lemmas.List.Sums.{sum_by-cons, length-filter}
use Rattle.flow_records.specs.declared.event.Event.{Event}
use Rattle.receiver.specs.declared.setup.Setup.{Setup}
use Rattle.lane.specs.Limits.{channel_limit}
use Rattle.lane.specs.Inputs.{AnsweredInput}
use Rattle.lane.specs.Report.{admitted_by, admitted_of}
use Rattle.receiver.specs.Order.{times_of, lengths_of, picked, kept_places, IsLawfulOrder, IsOrderFault, IsMergeOf}
use Rattle.lane.specs.Limits.{senders}
use Rattle.receiver.specs.Items.{Incoming, AreLanesOf, lane_setup, items_of, are_items}
use Rattle.flow_records.specs.Decisions.{names_a_flow, event_of_decision}
use Rattle.lane.specs.Report.{event_of_admitted}
use Rattle.receiver.specs.AdmittedOrder.{IsAdmittedOrder}
use Rattle.receiver.specs.Faults.{CanReceive, HasBadOrder}
use Rattle.lane.proofs.OneLaneAnswer.{one-list-of-answers}
use Rattle.receiver.proofs.OrderPlaces.{lawful-faultless}

-- a count of a list with one more in front
pub count-cons : {X : Type 0} (p : X → Bool) (x : X) (xs : List X) → count_by p (x ∷ xs) ≡ cond (p x) 1 0 + count_by p xs
count-cons p x xs = sum_by-cons (λ y. cond (p y) 1 0) x xs

-- how often a sender stands in an order whose first place names it, or another
module _ (sender tag : ℕ) (order : List ℕ) where
  times-here : sender ≡ tag → times_of sender (tag ∷ order) ≡ suc (times_of sender order)
  times-here same =
      let first : cond {A = ℕ} (tag == sender) 1 0 ≡ 1 = ap (λ b. cond {A = ℕ} b 1 0) (eq-eqb tag sender (sym same)) in
      let count = count-cons (λ t. t == sender) tag order in
      omega arith

  times-there : sender ≢ tag → times_of sender (tag ∷ order) ≡ times_of sender order
  times-there apart =
      let first : cond {A = ℕ} (tag == sender) 1 0 ≡ 0 = ap (λ b. cond {A = ℕ} b 1 0) (ne_eqb tag sender (λ same. apart (sym same))) in
      let count = count-cons (λ t. t == sender) tag order in
      omega arith

module _ {T : Type 0} where
  -- the first item is picked, or it isn't
  module _ (sender tag : ℕ) (order : List ℕ) (item : T) (items : List T) where
    picked-here : sender ≡ tag → picked sender (tag ∷ order) (item ∷ items) ≡ item ∷ picked sender order items
    picked-here same = ap (λ b. if b then item ∷ picked sender order items else picked sender order items) (eq-eqb sender tag same)

    picked-there : sender ≢ tag → picked sender (tag ∷ order) (item ∷ items) ≡ picked sender order items
    picked-there apart = ap (λ b. if b then item ∷ picked sender order items else picked sender order items) (ne_eqb sender tag apart)

  -- of each sender as many items are picked as it has places
  pub times-picked : (sender : ℕ) (order : List ℕ) (items : List T) → length order ≡ length items
      → times_of sender order ≡ length (picked sender order items)
  times-picked sender [] items same = refl
  times-picked sender (tag ∷ order) [] same = absurd (omega arith)
  times-picked sender (tag ∷ order) (item ∷ items) same =
      let rest = times-picked sender order items (omega arith) in
      ⊎_elim
      (λ (here : sender ≡ tag). times-here sender tag order here ∙ ap suc rest ∙ sym (ap length (picked-here sender tag order item items here)))
      (λ (apart : sender ≢ tag). times-there sender tag order apart ∙ rest ∙ sym (ap length (picked-there sender tag order item items apart)))
      (cases_eq sender tag)

  -- a list for each sender has its length among theirs
  pub length-of : (lists : ℕ → List T) (sender : ℕ) → sender < senders → slice_index_or (lengths_of lists) sender 0 ≡ length (lists sender)
  length-of lists zero below = refl
  length-of lists (suc zero) below = refl
  length-of lists (suc (suc zero)) below = refl
  length-of lists (suc (suc (suc zero))) below = refl
  length-of lists (suc (suc (suc (suc zero)))) below = refl
  length-of lists (suc (suc (suc (suc (suc sender))))) below = absurd (omega arith)

  -- the order of a merge is lawful
  pub merge-lawful : (lists : ℕ → List T) (order : List ℕ) (items : List T) → IsMergeOf lists order items → IsLawfulOrder (lengths_of lists) order
  merge-lawful lists order items is = record {
    named = is.named;
    whole = λ sender below.
        times-picked sender order items is.paired ∙ ap length (is.lists_are sender below) ∙ sym (length-of lists sender below);
  }

  -- lists that are the same for each sender are merged in the same way
  pub merge-same : (lists others : ℕ → List T) (order : List ℕ) (items : List T) → ((s : ℕ) → s < senders → lists s ≡ others s)
      → IsMergeOf lists order items → IsMergeOf others order items
  merge-same lists others order items same merged =
      record { named = merged.named; paired = merged.paired; lists_are = λ s named. merged.lists_are s named ∙ same s named }

  -- what is picked of each sender, put in its places, is the list
  same-items : (order : List ℕ) (items others : List T) → length order ≡ length items → length order ≡ length others
      → All (λ tag. tag < senders) order
      → ((sender : ℕ) → sender < senders → picked sender order items ≡ picked sender order others) → items ≡ others
  same-items [] [] [] long also named same = refl
  same-items [] [] (other ∷ others) long also named same = absurd (omega arith)
  same-items [] (item ∷ items) others long also named same = absurd (omega arith)
  same-items (tag ∷ order) [] others long also named same = absurd (omega arith)
  same-items (tag ∷ order) (item ∷ items) [] long also named same = absurd (omega arith)
  same-items (tag ∷ order) (item ∷ items) (other ∷ others) long also named same =
      let first : item ∷ picked tag order items ≡ other ∷ picked tag order others =
      sym (picked-here tag tag order item items refl) ∙ same tag (All-head (λ t. t < senders) tag order named)
      ∙ picked-here tag tag order other others refl in
      let here : item ≡ other = cc in
      let rest : items ≡ others =
      same-items order items others (omega arith) (omega arith) (All-tail (λ t. t < senders) tag order named)
      (λ sender below.
      ⊎_elim
      (λ (is : sender ≡ tag).
      let both : item ∷ picked sender order items ≡ other ∷ picked sender order others =
      sym (picked-here sender tag order item items is) ∙ same sender below ∙ picked-here sender tag order other others is in
      cc)
      (λ (apart : sender ≢ tag).
      sym (picked-there sender tag order item items apart) ∙ same sender below ∙ picked-there sender tag order other others apart)
      (cases_eq sender tag)) in
      ap (λ t. t ∷ items) here ∙ ap (λ t. other ∷ t) rest

  pub one-merge : (lists : ℕ → List T) (order : List ℕ) (items others : List T) → IsMergeOf lists order items → IsMergeOf lists order others
      → items ≡ others
  one-merge lists order items others is are =
      same-items order items others is.paired are.paired is.named (λ sender below. is.lists_are sender below ∙ sym (are.lists_are sender below))

-- how many flags are set
set_count : List Bool → ℕ
set_count flags = count_by (λ flag. flag) flags

set_count-cons : (flag : Bool) (flags : List Bool) → set_count (flag ∷ flags) ≡ cond flag 1 0 + set_count flags
unfolding set_count
set_count-cons flag flags = count-cons (λ f. f) flag flags

set_count-map : {X : Type 0} (p : X → Bool) (xs : List X) → set_count (map p xs) ≡ count_by p xs
unfolding set_count
set_count-map p [] = refl
set_count-map p (x ∷ xs) = set_count-cons (p x) (map p xs) ∙ ap (λ n. cond (p x) 1 0 + n) (set_count-map p xs) ∙ sym (count-cons p x xs)

-- the kept places of a sender are those whose flags are set
times-kept : (sender : ℕ) (tags : List ℕ) (flags : List Bool) → times_of sender (kept_places tags flags) ≡ set_count (picked sender tags flags)
unfolding set_count
times-kept sender [] flags = refl
times-kept sender (tag ∷ tags) [] = refl
times-kept sender (tag ∷ tags) (true ∷ flags) =
    let rest = times-kept sender tags flags in
    ⊎_elim
    (λ (here : sender ≡ tag).
    times-here sender tag (kept_places tags flags) here ∙ ap suc rest
    ∙ sym (ap set_count (picked-here sender tag tags true flags here) ∙ set_count-cons true (picked sender tags flags) ∙ omega arith))
    (λ (apart : sender ≢ tag).
    times-there sender tag (kept_places tags flags) apart ∙ rest ∙ sym (ap set_count (picked-there sender tag tags true flags apart)))
    (cases_eq sender tag)
times-kept sender (tag ∷ tags) (false ∷ flags) =
    let rest = times-kept sender tags flags in
    ⊎_elim
    (λ (here : sender ≡ tag).
    rest ∙ sym (ap set_count (picked-here sender tag tags false flags here) ∙ set_count-cons false (picked sender tags flags) ∙ omega arith))
    (λ (apart : sender ≢ tag). rest ∙ sym (ap set_count (picked-there sender tag tags false flags apart)))
    (cases_eq sender tag)

-- what holds of each place holds of each that is kept
all-kept : (P : ℕ → Type 0) (tags : List ℕ) (flags : List Bool) → All P tags → All P (kept_places tags flags)
all-kept P [] flags all = All-nil P
all-kept P (tag ∷ tags) [] all = All-nil P
all-kept P (tag ∷ tags) (true ∷ flags) all =
    All-cons P tag (kept_places tags flags) (All-head P tag tags all) (all-kept P tags flags (All-tail P tag tags all))
all-kept P (tag ∷ tags) (false ∷ flags) all = all-kept P tags flags (All-tail P tag tags all)

-- as many values are given as there are items that give one
count-given : {X Y : Type 0} (give : X → Option Y) (xs : List X) → count_by (λ x. is_some (give x)) xs ≡ length (filter_map give xs)
count-given give [] = refl
count-given {X} {Y} give (x ∷ xs) =
    count-cons (λ (t : X). is_some (give t)) x xs ∙ ap (λ n. cond (is_some (give x)) 1 0 + n) (count-given give xs)
    ∙ one-given (give x) (filter_map give xs)
  where
    one-given : (o : Option Y) (ys : List Y) → cond (is_some o) 1 0 + length ys ≡ length (cons_option o ys)
    one-given None ys = omega arith
    one-given (Some y) ys = omega arith

module _ (setup : Setup) (incoming : Incoming) where
  -- of a sender as many flags are set as it has items
  flags-of : Bool → List AnsweredInput → List Bool
  flags-of of_channel taken =
      if of_channel then map (λ one. is_some (admitted_by one.answer)) taken else map (names_a_flow (length setup.flows.items)) incoming.decisions

  events-of : Bool → List AnsweredInput → List Event
  events-of of_channel taken =
      if of_channel then map event_of_admitted (admitted_of taken)
      else map event_of_decision (filter (names_a_flow (length setup.flows.items)) incoming.decisions)

  flags-or-events : (of_channel : Bool) (taken : List AnsweredInput) → set_count (flags-of of_channel taken) ≡ length (events-of of_channel taken)
  unfolding flags-of events-of
  flags-or-events true taken =
      set_count-map (λ (one : AnsweredInput). is_some (admitted_by one.answer)) taken
      ∙ count-given (λ (one : AnsweredInput). admitted_by one.answer) taken
      ∙ sym (length-map (admitted_of taken) event_of_admitted)
  flags-or-events false taken =
      let names = names_a_flow (length setup.flows.items) in
      set_count-map names incoming.decisions
      ∙ sym (length-map (filter names incoming.decisions) event_of_decision ∙ length-filter names incoming.decisions)

  set-flags : (answered : ℕ → List AnsweredInput) (sender : ℕ)
      → set_count (are_items setup incoming answered sender) ≡ length (items_of setup incoming answered sender)
  unfolding flags-of events-of
  set-flags answered sender = flags-or-events (nat_lt sender channel_limit) (answered sender)

  -- so the admitted order is lawful
  pub admitted-lawful : (tags order : List ℕ) (is : IsAdmittedOrder setup incoming tags order)
      → IsLawfulOrder (lengths_of (items_of setup incoming is.answered)) order
  admitted-lawful tags order is =
      subst (IsLawfulOrder (lengths_of (items_of setup incoming is.answered))) (sym is.order_is)
      (record {
        named = all-kept (λ tag. tag < senders) tags is.flags is.merged.named;
        whole = λ sender below.
            times-kept sender tags is.flags ∙ ap set_count (is.merged.lists_are sender below) ∙ set-flags is.answered sender
            ∙ sym (length-of (items_of setup incoming is.answered) sender below);
      })

  -- there are as many items, whatever answers the inputs have
  module _ (can : CanReceive setup) (answered others : ℕ → List AnsweredInput) where
    module _ (lanes : AreLanesOf setup incoming answered) (also : AreLanesOf setup incoming others) where
      pub one-lane : (channel : ℕ) → channel < channel_limit → answered channel ≡ others channel
      one-lane channel below =
          one-list-of-answers channel_limit (lane_setup setup channel) can.lanes (answered channel) (others channel)
          (lanes channel below).answers (also channel below).answers
          ((lanes channel below).inputs ∙ sym (also channel below).inputs)

      pub same-lengths : lengths_of (items_of setup incoming answered) ≡ lengths_of (items_of setup incoming others)
      same-lengths =
          let long : List AnsweredInput → ℕ = λ taken. length (map event_of_admitted (admitted_of taken)) in
          let l0 = ap long (one-lane 0 (lit< tt)) in
          let l1 = ap long (one-lane 1 (lit< tt)) in
          let l2 = ap long (one-lane 2 (lit< tt)) in
          let l3 = ap long (one-lane 3 (lit< tt)) in
          cc

  -- and so the order has no fault
  pub admitted-faultless : (tags order : List ℕ) → CanReceive setup → IsAdmittedOrder setup incoming tags order → (k : ℕ)
      → ¬ (HasBadOrder setup incoming order k)
  admitted-faultless tags order can is k bad =
      lawful-faultless (lengths_of (items_of setup incoming is.answered)) order (admitted-lawful tags order is) k
      (subst (λ lengths. IsOrderFault lengths order k) (same-lengths can bad.answered is.answered bad.lanes is.lanes) bad.fault)
