-- Items in place of others: of flows that are selected they are the same.
use Rattle.std.proofs.Common.{◌≡◌, ℕ, suc, ◌<◌, ◌==◌, inl, inr, Bool, true, false, cond, Option, Some, None, All, List, [], ◌∷◌, length, drop, map, filter_map, eq-eqb, ne_eqb, refl, ap, sym, subst, ◌∙◌, arith}
use Rattle.std.specs.List.{AllZip, cons_option}
use Rattle.std.proofs.lemmas.Bool.{cases_eq}
use Rattle.std.proofs.lemmas.List.Elements.{All-head, All-tail}
use Rattle.flow_records.specs.declared.event.Event.{Event}
use Rattle.flow_records.specs.declared.event.Event.TheVariants.{Arrive}
use Rattle.flow_records.specs.Events.{flow_of}
use Rattle.flow_records.specs.Counted.{counted}
use Rattle.lane.specs.declared.admitted.Admitted.{Admitted}
use Rattle.lane.specs.declared.admitted.Request.{Request}
use Rattle.lane.specs.Limits.{senders}
use Rattle.lane.specs.Inputs.{AnsweredInput}
use Rattle.lane.specs.Report.{admitted_by, admitted_of, refused_by, requests_of, admitted_count, refusal_numbers, event_of_admitted}
use Rattle.loss_rule.specs.Rule.{Coming}
use Rattle.receiver.specs.Order.{picked, IsMergeOf}
use Rattle.receiver.specs.Ruled.{coming_of, comings_at}
use Rattle.receiver.proofs.Pairs.{zip_weaker, zip_map, zip_length}
use Rattle.answers.specs.Beside.{IsAdmittedFor, AreAdmittedFor, AnswersInPlaceOf}
use Rattle.answers.proofs.SomeIntake.{left, picked-first}

-- An item in place of another: of the same flow, and the same if that is selected.
pub record IsItemFor (selected : ℕ → Bool) (one other : Event) : Type 0 where
  pub flow : flow_of other ≡ flow_of one
  pub same : selected (flow_of one) ≡ true → other ≡ one

pub item_same : (selected : ℕ → Bool) (one : Event) → IsItemFor selected one one
item_same selected one = record { flow = refl; same = λ chosen. refl }

-- what is admitted of both
admitted-option : (selected : ℕ → Bool) (one other : Option Admitted) (ones others : List Admitted) → AreAdmittedFor selected one other
    → AllZip (IsAdmittedFor selected) ones others → AllZip (IsAdmittedFor selected) (cons_option one ones) (cons_option other others)
admitted-option selected None None ones others here rest = rest
admitted-option selected None (Some b) ones others here rest = absurd here
admitted-option selected (Some a) None ones others here rest = absurd here
admitted-option selected (Some a) (Some b) ones others here rest = (here, rest)

pub admitted-for : (selected : ℕ → Bool) (ones others : List AnsweredInput) → AllZip (AnswersInPlaceOf selected) ones others
    → AllZip (IsAdmittedFor selected) (admitted_of ones) (admitted_of others)
admitted-for selected [] [] all = tt
admitted-for selected [] (other ∷ others) all = absurd all
admitted-for selected (one ∷ ones) [] all = absurd all
admitted-for selected (one ∷ ones) (other ∷ others) all =
    admitted-option selected (admitted_by one.answer) (admitted_by other.answer) (admitted_of ones) (admitted_of others) all.0.admitted (admitted-for selected ones others all.1)

-- the items are of the same flows
item-for : (selected : ℕ → Bool) (one other : Admitted) → IsAdmittedFor selected one other → IsItemFor selected (event_of_admitted one) (event_of_admitted other)
item-for selected one other is = record {
  flow = is.flow;
  same = λ chosen. ap (λ flow. Arrive flow other.segment) is.flow ∙ ap (Arrive one.flow) (is.segment chosen);
}

pub items-for : (selected : ℕ → Bool) (ones others : List AnsweredInput) → AllZip (AnswersInPlaceOf selected) ones others
    → AllZip (IsItemFor selected) (map event_of_admitted (admitted_of ones)) (map event_of_admitted (admitted_of others))
items-for selected ones others all =
    zip_map (IsItemFor selected) event_of_admitted event_of_admitted (admitted_of ones) (admitted_of others)
    (zip_weaker (IsAdmittedFor selected) (λ one other. IsItemFor selected (event_of_admitted one) (event_of_admitted other)) (item-for selected)
    (admitted_of ones) (admitted_of others) (admitted-for selected ones others all))

-- requests and reports are the same
asked-same : (selected : ℕ → Bool) (ones others : List Admitted) → AllZip (IsAdmittedFor selected) ones others
    → filter_map (λ (one : Admitted). one.request) others ≡ filter_map (λ (one : Admitted). one.request) ones
asked-same selected [] [] all = refl
asked-same selected [] (other ∷ others) all = absurd all
asked-same selected (one ∷ ones) [] all = absurd all
asked-same selected (one ∷ ones) (other ∷ others) all =
    let asked : List Request = filter_map (λ (a : Admitted). a.request) others in
    ap (λ (request : Option Request). cons_option request asked) all.0.request ∙ ap (cons_option one.request) (asked-same selected ones others all.1)

pub requests-same : (selected : ℕ → Bool) (ones others : List AnsweredInput) → AllZip (AnswersInPlaceOf selected) ones others → requests_of others ≡ requests_of ones
requests-same selected ones others all = asked-same selected (admitted_of ones) (admitted_of others) (admitted-for selected ones others all)

pub count-same : (selected : ℕ → Bool) (ones others : List AnsweredInput) → AllZip (AnswersInPlaceOf selected) ones others → admitted_count others ≡ admitted_count ones
count-same selected ones others all = ap counted (zip_length (IsAdmittedFor selected) (admitted_of ones) (admitted_of others) (admitted-for selected ones others all))

pub refused-same : (selected : ℕ → Bool) (ones others : List AnsweredInput) → AllZip (AnswersInPlaceOf selected) ones others → refusal_numbers others ≡ refusal_numbers ones
refused-same selected [] [] all = refl
refused-same selected [] (other ∷ others) all = absurd all
refused-same selected (one ∷ ones) [] all = absurd all
refused-same selected (one ∷ ones) (other ∷ others) all =
    ap (λ (refused : Option ℕ). cons_option refused (refusal_numbers others)) all.0.refused ∙ ap (cons_option (refused_by one.answer)) (refused-same selected ones others all.1)

module _ {T : Type 0} (R : T → T → Type 0) where
  -- the first of a list with others in its place
  first-for : (x : T) (xs ys : List T) → AllZip R (x ∷ xs) ys → (y : T) × (ys ≡ y ∷ drop 1 ys) × R x y × AllZip R xs (drop 1 ys)
  first-for x xs [] all = absurd all
  first-for x xs (y ∷ ys) all = (y, refl, all.0, all.1)

  -- what is left of each sender's list has others in its place
  left-for : (tag s : ℕ) (order : List ℕ) (item : T) (items : List T) (lists : ℕ → List T)
      → AllZip R (picked s (tag ∷ order) (item ∷ items)) (lists s) → AllZip R (picked s order items) (left lists tag s)
  left-for tag s order item items lists all =
      elim (cases_eq s tag) [
        | inl same ↦
            let here : (s == tag) ≡ true = eq-eqb s tag same in
            let picked_is = ap (λ b. cond b (item ∷ picked s order items) (picked s order items)) here in
            let all_here : AllZip R (item ∷ picked s order items) (lists s) = subst (λ (t : List T). AllZip R t (lists s)) picked_is all in
            subst (λ (t : List T). AllZip R (picked s order items) t) (sym (ap (λ b. cond b (drop 1 (lists s)) (lists s)) here))
            (first-for item (picked s order items) (lists s) all_here).3
        | inr apart ↦
            let there : (s == tag) ≡ false = ne_eqb s tag apart in
            let picked_is = ap (λ b. cond b (item ∷ picked s order items) (picked s order items)) there in
            let all_there : AllZip R (picked s order items) (lists s) = subst (λ (t : List T). AllZip R t (lists s)) picked_is all in
            subst (λ (t : List T). AllZip R (picked s order items) t) (sym (ap (λ b. cond b (drop 1 (lists s)) (lists s)) there)) all_there
      ]

  -- other lists are merged in the same order, each item in the place of one
  pub merged-for : (order : List ℕ) (items : List T) (lists : ℕ → List T) → All (λ tag. tag < senders) order → length order ≡ length items
      → ((s : ℕ) → s < senders → AllZip R (picked s order items) (lists s)) → (others : List T) × IsMergeOf lists order others × AllZip R items others
  merged-for [] [] lists named paired each =
      ([], record { named = named; paired = refl; lists_are = λ s below. none (lists s) (each s below) }, tt)
    where
      none : (ys : List T) → AllZip R [] ys → [] ≡ ys
      none [] all = refl
      none (y ∷ ys) all = absurd all
  merged-for [] (item ∷ items) lists named paired each = absurd (omega arith)
  merged-for (tag ∷ order) [] lists named paired each = absurd (omega arith)
  merged-for (tag ∷ order) (item ∷ items) lists named paired each =
      let below = All-head (λ t. t < senders) tag order named in
      let own : AllZip R (item ∷ picked tag order items) (lists tag) =
      subst (λ (t : List T). AllZip R t (lists tag)) (ap (λ b. cond b (item ∷ picked tag order items) (picked tag order items)) (eq-eqb tag tag refl)) (each tag below) in
      let first = first-for item (picked tag order items) (lists tag) own in
      let rest = merged-for order items (left lists tag) (All-tail (λ t. t < senders) tag order named) (omega arith)
      (λ s named_one. left-for tag s order item items lists (each s named_one)) in (
        first.0 ∷ rest.0,
        record {
          named = named;
          paired = ap suc rest.1.paired;
          lists_are = λ s named_one. picked-first lists tag s order first.0 rest.0 first.1 (rest.1.lists_are s named_one);
        },
        (first.2, rest.2),
      )

-- to a flow that is selected the same comes
comings-if : (k sender : ℕ) (one other : Event) (ones others : List Coming) → flow_of other ≡ flow_of one → (flow_of one ≡ k → other ≡ one) → others ≡ ones
    → cond (flow_of other == k) (coming_of sender other ∷ others) others ≡ cond (flow_of one == k) (coming_of sender one ∷ ones) ones
comings-if k sender one other ones others flow same rest =
    elim (cases_eq (flow_of one) k) [
      | inl is ↦
          let e = same is in
          ap (λ (o : Event). cond (flow_of o == k) (coming_of sender o ∷ others) others) e
          ∙ ap (λ (t : List Coming). cond (flow_of one == k) (coming_of sender one ∷ t) t) rest
      | inr differs ↦
          ap (λ b. cond b (coming_of sender other ∷ others) others) (ap (λ n. n == k) flow ∙ ne_eqb (flow_of one) k differs)
          ∙ rest ∙ sym (ap (λ b. cond b (coming_of sender one ∷ ones) ones) (ne_eqb (flow_of one) k differs))
    ]

pub comings-same : (selected : ℕ → Bool) (k : ℕ) (order : List ℕ) (ones others : List Event) → selected k ≡ true → AllZip (IsItemFor selected) ones others
    → comings_at k order others ≡ comings_at k order ones
comings-same selected k [] ones others chosen all = refl
comings-same selected k (sender ∷ order) [] [] chosen all = refl
comings-same selected k (sender ∷ order) [] (other ∷ others) chosen all = absurd all
comings-same selected k (sender ∷ order) (one ∷ ones) [] chosen all = absurd all
comings-same selected k (sender ∷ order) (one ∷ ones) (other ∷ others) chosen all =
    comings-if k sender one other (comings_at k order ones) (comings_at k order others) all.0.flow
    (λ is. all.0.same (ap selected is ∙ chosen)) (comings-same selected k order ones others chosen all.1)
