-- What is handed on in one way alone.
use Rattle.std.proofs.Common.{◌≡◌, ℕ, ◌<◌, ◌≤◌, inl, inr, Option, Some, List, [], ◌∷◌, ◌++◌, slice_get, refl, ap, sym, subst, ◌∙◌, arith}
use Rattle.std.specs.Prelude.{remove, option_to_list, is_some}
use Rattle.std.proofs.lemmas.Bool.{cases_order, both_ways}
use Rattle.std.proofs.lemmas.Option.{same_Some, none-some}
use Rattle.capture_rules.specs.declared.arrival.Arrival.{Arrival}
use Rattle.capture_rules.specs.declared.arrival.HandedOn.{HandedOn}
use Rattle.capture_rules.specs.declared.arrival.Waiting.{Waiting}
use Rattle.capture_rules.specs.declared.clock_counts.ClockCounts.{ClockCounts}
use Rattle.capture_rules.specs.Clock.{is_set_back, counts_after}
use Rattle.capture_rules.specs.Order.{OrderView, place_of, IsNext, HandsOn, none_due, one_due, KeepsMost, all_wait, one_more, TakesIn, BurstComes, HandsOnAll, none_waits, one_waits, Orders, none_came, one_came}

not_both : (m n : ℕ) → m < n → n ≤ m → ⊥
not_both m n less more = omega (arith, less, more)

module _ {T : Type 0} (waiting : List (Waiting T)) where
  one-oldest : (a b : HandedOn T) (ra rb : List (Waiting T)) (p : IsNext waiting a ra) (q : IsNext waiting b rb) → p.oldest ≡ q.oldest
  one-oldest a b ra rb p q = same_Some _ _ (sym p.stands_first ∙ q.stands_first)

  -- of two that are next none stands before the other
  not-before : (a b : HandedOn T) (ra rb : List (Waiting T)) (p : IsNext waiting a ra) (q : IsNext waiting b rb) → p.at < q.at → ⊥
  not-before a b ra rb p q before =
      let same = one-oldest a b ra rb p q in
      let less : place_of q.oldest q.one < place_of q.oldest p.one = q.first p.at p.one before p.stands (p.of_channel ∙ ap (λ (o : Waiting T). o.arrival.channel) same) in
      let more : place_of q.oldest p.one ≤ place_of q.oldest q.one =
      subst (λ (o : Waiting T). place_of o p.one ≤ place_of o q.one) same (p.least q.at q.one q.stands (q.of_channel ∙ ap (λ (o : Waiting T). o.arrival.channel) (sym same))) in
      not_both (place_of q.oldest q.one) (place_of q.oldest p.one) less more

  one-place : (a b : HandedOn T) (ra rb : List (Waiting T)) (p : IsNext waiting a ra) (q : IsNext waiting b rb) → p.at ≡ q.at
  one-place a b ra rb p q =
      elim (cases_order p.at q.at) [
        | inl same ↦ same
        | inr other ↦ elim other [ inl before ↦ absurd (not-before a b ra rb p q before) | inr after ↦ absurd (not-before b a rb ra q p after) ]
      ]

  pub one-next : (a b : HandedOn T) (ra rb : List (Waiting T)) → IsNext waiting a ra → IsNext waiting b rb → (a ≡ b) × (ra ≡ rb)
  one-next a b ra rb p q =
      let at = one-place a b ra rb p q in
      let one : p.one ≡ q.one = same_Some _ _ (sym p.stands ∙ ap (slice_get waiting) at ∙ q.stands) in
      let arrival : a.arrival ≡ b.arrival = p.itself ∙ ap (λ (w : Waiting T). w.arrival) one ∙ sym q.itself in
      let time : a.time ≡ b.time = p.in_its_time ∙ ap (λ (o : Waiting T). o.came) (one-oldest a b ra rb p q) ∙ sym q.in_its_time in
      let made : ℕ → Arrival T → HandedOn T = λ t x. record { time = t; arrival = x } in
      (ap (λ t. made t a.arrival) time ∙ ap (made b.time) arrival, p.others ∙ ap (remove waiting) at ∙ sym q.others)

-- where none waits none is next
none-next : {T : Type 0} {next : HandedOn T} {rest : List (Waiting T)} → IsNext [] next rest → ⊥
none-next p = none-some _ p.stands_first

module _ {T : Type 0} where
  one-handing : {time : ℕ} {order left left' : OrderView T} {handed handed' : List (HandedOn T)}
      → HandsOn time order handed left → HandsOn time order handed' left' → (handed ≡ handed') × (left ≡ left')
  one-handing (none_due none) (none_due none') = (refl, refl)
  one-handing (none_due none) (one_due due next more) = absurd (both_ways _ none due)
  one-handing (one_due due next more) (none_due none) = absurd (both_ways _ none due)
  one-handing {time = time} {left' = left'} (one_due {order = order} {rest = ra} {next = a} {later = others} due next more) (one_due {rest = rb} {next = b} {later = later} due' next' more') =
      let same = one-next order.waiting a b ra rb next next' in
      let rest = one-handing more (subst (λ (w : List (Waiting T)). HandsOn time (record order { waiting = w }) later left') (sym same.1) more') in
      (ap (λ (x : HandedOn T). x ∷ others) same.0 ∙ ap (λ (xs : List (HandedOn T)). b ∷ xs) rest.0, rest.1)

  one-keeping : {waiting rest rest' : List (Waiting T)} {last last' : Option (HandedOn T)} → KeepsMost waiting last rest → KeepsMost waiting last' rest' → (last ≡ last') × (rest ≡ rest')
  one-keeping (all_wait few) (all_wait few') = (refl, refl)
  one-keeping (all_wait few) (one_more many next) = absurd (not_both _ _ many few)
  one-keeping (one_more many next) (all_wait few) = absurd (not_both _ _ many few)
  one-keeping {waiting = waiting} (one_more {next = a} {rest = ra} many next) (one_more {next = b} {rest = rb} many' next') =
      let same = one-next waiting a b ra rb next next' in (ap Some same.0, same.1)

  pub view-same : (a b : OrderView T) → a.reorder ≡ b.reorder → a.clock ≡ b.clock → a.counts ≡ b.counts → a.waiting ≡ b.waiting → a ≡ b
  view-same a b r c n w =
      let made : ℕ → ℕ → ClockCounts → List (Waiting T) → OrderView T = λ x y k z. record { reorder = x; clock = y; counts = k; waiting = z } in
      ap (λ x. made x a.clock a.counts a.waiting) r ∙ ap (λ y. made b.reorder y a.counts a.waiting) c ∙ ap (λ k. made b.reorder b.clock k a.waiting) n ∙ ap (made b.reorder b.clock b.counts) w

  one-taking : {order left left' : OrderView T} {one : Arrival T} {last last' : Option (HandedOn T)} → TakesIn order one last left → TakesIn order one last' left' → (last ≡ last') × (left ≡ left')
  one-taking {order = order} {left = left} {left' = left'} {one = one} p q =
      let kept = one-keeping p.keeps q.keeps in
      let counted : Option (HandedOn T) → ClockCounts = λ last. counts_after order.counts (is_set_back order.reorder order.clock one.time) (is_some last) in
      (kept.0, view-same left left' (p.reorder ∙ sym q.reorder) (p.clock ∙ sym q.clock) (p.counts ∙ ap counted kept.0 ∙ sym q.counts) kept.1)

  one-coming : {order left left' : OrderView T} {one : Arrival T} {handed handed' : List (HandedOn T)} → BurstComes order one handed left → BurstComes order one handed' left'
      → (handed ≡ handed') × (left ≡ left')
  one-coming {left' = left'} {one = one} p q =
      let first = one-handing p.hands_on q.hands_on in
      let then = one-taking p.takes_in (subst (λ (o : OrderView T). TakesIn o one q.last left') (sym first.1) q.takes_in) in
      (p.all ∙ ap (λ (xs : List (HandedOn T)). xs ++ option_to_list p.last) first.0 ∙ ap (λ (x : Option (HandedOn T)). q.due ++ option_to_list x) then.0 ∙ sym q.all, then.1)

  pub one-end : {waiting : List (Waiting T)} {handed handed' : List (HandedOn T)} → HandsOnAll waiting handed → HandsOnAll waiting handed' → handed ≡ handed'
  one-end none_waits none_waits = refl
  one-end none_waits (one_waits next more) = absurd (none-next next)
  one-end (one_waits next more) none_waits = absurd (none-next next)
  one-end (one_waits {waiting = waiting} {rest = ra} {next = a} {later = others} next more) (one_waits {rest = rb} {next = b} {later = later} next' more') =
      let same = one-next waiting a b ra rb next next' in
      let rest = one-end more (subst (λ (w : List (Waiting T)). HandsOnAll w later) (sym same.1) more') in
      ap (λ (x : HandedOn T). x ∷ others) same.0 ∙ ap (λ (xs : List (HandedOn T)). b ∷ xs) rest

  pub one-order : {order left left' : OrderView T} {came : List (Arrival T)} {handed handed' : List (HandedOn T)}
      → Orders order came handed left → Orders order came handed' left' → (handed ≡ handed') × (left ≡ left')
  one-order none_came none_came = (refl, refl)
  one-order {left' = left'} (one_came {more = more} {due = due} {later = others} now after) (one_came {due = due'} {later = later'} now' after') =
      let same = one-coming now now' in
      let rest = one-order after (subst (λ (o : OrderView T). Orders o more later' left') (sym same.1) after') in
      (ap (λ (xs : List (HandedOn T)). xs ++ others) same.0 ∙ ap (λ (xs : List (HandedOn T)). due' ++ xs) rest.0, rest.1)
