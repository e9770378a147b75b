-- Lists are merged in each lawful order, inputs have answers, and so what comes in has an intake.
use Rattle.std.proofs.Common.{◌≡◌, ◌≢◌, ℕ, zero, suc, ◌-◌, ◌<◌, ◌≤◌, ◌==◌, inl, inr, Bool, true, false, cond, List, [], ◌∷◌, length, drop, map, is_some, slice_index_or, eq-eqb, ne_eqb, lit<, refl, sym, ap, ◌∙◌, arith}
use Rattle.std.specs.List.{All}
use Rattle.std.proofs.lemmas.Bool.{cases_eq}
use Rattle.std.proofs.lemmas.List.{nil_from_length, length-map}
use Rattle.std.proofs.lemmas.List.Elements.{All-head, All-tail}
use Rattle.lane.specs.Limits.{channel_limit, senders}
use Rattle.lane.specs.Inputs.{AnsweredInput}
use Rattle.lane.specs.Report.{admitted_by}
use Rattle.lane.proofs.LaneAnswers.{answers-to-all}
use Rattle.flow_records.specs.Decisions.{names_a_flow}
use Rattle.receiver.specs.declared.setup.Setup.{Setup}
use Rattle.receiver.specs.Faults.{CanReceive}
use Rattle.receiver.specs.Items.{Incoming, lane_setup, IsLaneOf, AreLanesOf, items_of, are_items}
use Rattle.receiver.specs.Order.{times_of, lengths_of, picked, kept_places, IsLawfulOrder, IsMergeOf}
use Rattle.receiver.specs.AdmittedOrder.{input_counts, IsAdmittedOrder}
use Rattle.receiver.specs.Intake.{IsIntake}
use Rattle.receiver.proofs.MergedLists.{count-cons, length-of, admitted-lawful}
use Rattle.receiver.proofs.Senders.{four, five}
use Rattle.answers.specs.Room.{AreBurstsOfBytes}

module _ {T : Type 0} where
  -- the first item of a list that has some
  uncons : (xs : List T) → 0 < length xs → (x : T) × (xs ≡ x ∷ drop 1 xs)
  uncons [] some = absurd (omega arith)
  uncons (x ∷ xs) some = (x, refl)

  -- a list without its first item
  drop-one : (xs : List T) → length (drop 1 xs) ≡ length xs - 1
  drop-one [] = omega arith
  drop-one (x ∷ xs) = omega arith

  -- what is left of each sender's list once one's first item is taken
  abbrev pub left : (ℕ → List T) → ℕ → ℕ → List T
  left lists tag s = cond (s == tag) (drop 1 (lists s)) (lists s)

  -- the first place of an order names a sender, or another
  module _ (s tag : ℕ) (order : List ℕ) (xs : List T) (is : times_of s (tag ∷ order) ≡ length xs) where
    times-left_here : s ≡ tag → times_of s order ≡ length (drop 1 xs)
    times-left_here same =
        let one : cond {A = ℕ} (tag == s) 1 0 ≡ 1 = ap (λ b. cond {A = ℕ} b 1 0) (eq-eqb tag s (sym same)) in
        let count = count-cons (λ t. t == s) tag order in
        let rest = drop-one xs in
        omega arith

    times-left_there : s ≢ tag → times_of s order ≡ length xs
    times-left_there apart =
        let none : cond {A = ℕ} (tag == s) 1 0 ≡ 0 = ap (λ b. cond {A = ℕ} b 1 0) (ne_eqb tag s (λ same. apart (sym same))) in
        let count = count-cons (λ t. t == s) tag order in
        omega arith

  times-left : (lists : ℕ → List T) (tag : ℕ) (order : List ℕ) (s : ℕ) → times_of s (tag ∷ order) ≡ length (lists s) → times_of s order ≡ length (left lists tag s)
  times-left lists tag order s is =
      elim (cases_eq s tag) [
        | inl same ↦ times-left_here s tag order (lists s) is same ∙ sym (ap (λ b. length (cond b (drop 1 (lists s)) (lists s))) (eq-eqb s tag same))
        | inr apart ↦ times-left_there s tag order (lists s) is apart ∙ sym (ap (λ b. length (cond b (drop 1 (lists s)) (lists s))) (ne_eqb s tag apart))
      ]

  -- the first place has an item
  some_first : (tag : ℕ) (order : List ℕ) (xs : List T) → times_of tag (tag ∷ order) ≡ length xs → 0 < length xs
  some_first tag order xs is =
      let one : cond {A = ℕ} (tag == tag) 1 0 ≡ 1 = ap (λ b. cond {A = ℕ} b 1 0) (eq-eqb tag tag refl) in
      let count = count-cons (λ t. t == tag) tag order in
      omega arith

  -- with the first item in front what is picked of each sender is its list
  pub picked-first : (lists : ℕ → List T) (tag s : ℕ) (order : List ℕ) (item : T) (items : List T) → lists tag ≡ item ∷ drop 1 (lists tag)
      → picked s order items ≡ left lists tag s → picked s (tag ∷ order) (item ∷ items) ≡ lists s
  picked-first lists tag s order item items first rest =
      elim (cases_eq s tag) [
        | inl same ↦
            let here : (s == tag) ≡ true = eq-eqb s tag same in
            ap (λ b. cond b (item ∷ picked s order items) (picked s order items)) here
            ∙ ap (λ t. item ∷ t) (rest ∙ ap (λ b. cond b (drop 1 (lists s)) (lists s)) here ∙ ap (λ n. drop 1 (lists n)) same)
            ∙ sym first ∙ ap lists (sym same)
        | inr apart ↦
            let there : (s == tag) ≡ false = ne_eqb s tag apart in
            ap (λ b. cond b (item ∷ picked s order items) (picked s order items)) there
            ∙ rest ∙ ap (λ b. cond b (drop 1 (lists s)) (lists s)) there
      ]

  -- lists are merged in each order that names their senders as often as they have items
  pub some_merge : (lists : ℕ → List T) (order : List ℕ) → All (λ tag. tag < senders) order
      → ((s : ℕ) → s < senders → times_of s order ≡ length (lists s)) → (items : List T) × IsMergeOf lists order items
  some_merge lists [] named whole =
      ([], record { named = named; paired = refl; lists_are = λ s below. sym (nil_from_length (lists s) (sym (whole s below))) })
  some_merge lists (tag ∷ order) named whole =
      let below = All-head (λ t. t < senders) tag order named in
      let first = uncons (lists tag) (some_first tag order (lists tag) (whole tag below)) in
      let rest = some_merge (left lists tag) order (All-tail (λ t. t < senders) tag order named) (λ s named_one. times-left lists tag order s (whole s named_one)) in (
        first.0 ∷ rest.0,
        record {
          named = named;
          paired = ap suc rest.1.paired;
          lists_are = λ s named_one. picked-first lists tag s order first.0 rest.0 first.1 (rest.1.lists_are s named_one);
        },
      )

-- one of four lists, by the channel
abbrev pub of_four : (a b c d : List AnsweredInput) → ℕ → List AnsweredInput
of_four a b c d zero = a
of_four a b c d (suc zero) = b
of_four a b c d (suc (suc zero)) = c
of_four a b c d (suc (suc (suc zero))) = d
of_four a b c d (suc (suc (suc (suc channel)))) = []

-- no more places are kept than there are
pub few_kept : (tags : List ℕ) (flags : List Bool) → length (kept_places tags flags) ≤ length tags
few_kept [] flags = omega arith
few_kept (tag ∷ tags) [] = omega arith
few_kept (tag ∷ tags) (true ∷ flags) = omega (arith, few_kept tags flags)
few_kept (tag ∷ tags) (false ∷ flags) = omega (arith, few_kept tags flags)

module _ (setup : Setup) (incoming : Incoming) where
  -- the inputs of a channel have answers
  some_lane : CanReceive setup → AreBurstsOfBytes incoming → (channel : ℕ) → channel < channel_limit → (answered : List AnsweredInput) × IsLaneOf setup incoming channel answered
  some_lane can are channel below =
      let found = answers-to-all channel_limit (lane_setup setup channel) can.lanes (incoming.inputs channel) (are channel below) in
      (found.0, record { answers = found.1; inputs = found.2 })

  pub some_lanes : CanReceive setup → AreBurstsOfBytes incoming → (answered : ℕ → List AnsweredInput) × AreLanesOf setup incoming answered
  some_lanes can are =
      let a = some_lane can are 0 (lit< tt) in
      let b = some_lane can are 1 (lit< tt) in
      let c = some_lane can are 2 (lit< tt) in
      let d = some_lane can are 3 (lit< tt) in
      let all = of_four a.0 b.0 c.0 d.0 in
      (all, four (λ channel. IsLaneOf setup incoming channel (all channel)) a.1 b.1 c.1 d.1)

  -- in each lawful order of the items there is an intake
  pub some_intake : (answered : ℕ → List AnsweredInput) (order : List ℕ) → AreLanesOf setup incoming answered
      → IsLawfulOrder (lengths_of (items_of setup incoming answered)) order → IsIntake setup incoming order
  some_intake answered order lanes lawful =
      let lists = items_of setup incoming answered in
      let merge = some_merge lists order lawful.named (λ s below. lawful.whole s below ∙ length-of lists s below) in
      record { answered = answered; lanes = lanes; items = merge.0; merged = merge.1 }

  -- of each sender so many inputs or decisions came
  channel-flags : (channel : ℕ) (answered : List AnsweredInput) → IsLaneOf setup incoming channel answered
      → length (incoming.inputs channel) ≡ length (map (λ (one : AnsweredInput). is_some (admitted_by one.answer)) answered)
  channel-flags channel answered lane =
      sym (ap length lane.inputs) ∙ length-map answered (λ (one : AnsweredInput). one.input)
      ∙ sym (length-map answered (λ (one : AnsweredInput). is_some (admitted_by one.answer)))

  flag-counts : (answered : ℕ → List AnsweredInput) → AreLanesOf setup incoming answered → (s : ℕ) → s < senders
      → slice_index_or (input_counts incoming) s 0 ≡ length (are_items setup incoming answered s)
  flag-counts answered lanes =
      five (λ s. slice_index_or (input_counts incoming) s 0 ≡ length (are_items setup incoming answered s))
      (channel-flags 0 (answered 0) (lanes 0 (lit< tt)))
      (channel-flags 1 (answered 1) (lanes 1 (lit< tt)))
      (channel-flags 2 (answered 2) (lanes 2 (lit< tt)))
      (channel-flags 3 (answered 3) (lanes 3 (lit< tt)))
      (sym (length-map incoming.decisions (names_a_flow (length setup.flows.items))))

  -- of lawful tags of all that came there is an admitted order, and in it an intake
  pub some_admitted : (tags : List ℕ) → CanReceive setup → AreBurstsOfBytes incoming → IsLawfulOrder (input_counts incoming) tags
      → (order : List ℕ) × IsAdmittedOrder setup incoming tags order × IsIntake setup incoming order × (length order ≤ length tags)
  some_admitted tags can are lawful =
      let lanes = some_lanes can are in
      let merge = some_merge (are_items setup incoming lanes.0) tags lawful.named (λ s below. lawful.whole s below ∙ flag-counts lanes.0 lanes.1 s below) in
      let order = kept_places tags merge.0 in
      let admitted : IsAdmittedOrder setup incoming tags order = record { answered = lanes.0; lanes = lanes.1; flags = merge.0; merged = merge.1; order_is = refl } in
      (order, admitted, some_intake lanes.0 order lanes.1 (admitted-lawful setup incoming tags order admitted), few_kept tags merge.0)
