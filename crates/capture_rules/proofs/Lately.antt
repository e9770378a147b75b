-- What goes on waiting came lately, by the flow's clock.
use Rattle.std.proofs.Common.{◌≡◌, ℕ, zero, suc, ◌+◌, ◌-◌, ◌≤◌, false, max, Option, List, [], ◌∷◌, ◌++◌, length, get_or, refl, sym, subst, ap, ◌∙◌, arith}
use Rattle.std.specs.Prelude.{All, AllPairs, nat_lt, remove}
use Rattle.std.proofs.lemmas.Bool.{ltb-false, or_parts, cond-false}
use Rattle.std.proofs.lemmas.List.{length-append}
use Rattle.std.proofs.lemmas.List.Quantifiers.{all_pairs_remove, all_pairs_push}
use Rattle.std.proofs.lemmas.List.Elements.{All-nil, All-push, All-append, All-take, All-drop, All-weaker}
use Rattle.std.proofs.lemmas.Option.{slice_get_within}
use Rattle.capture_rules.specs.declared.arrival.Arrival.{Arrival}
use Rattle.capture_rules.specs.declared.arrival.HandedOn.{HandedOn}
use Rattle.capture_rules.specs.declared.arrival.Waiting.{Waiting}
use Rattle.capture_rules.specs.declared.clock_counts.ClockCounts.{ClockCounts}
use Rattle.capture_rules.specs.Clock.{is_set_back, clock_at}
use Rattle.capture_rules.specs.Order.{OrderView, most_waiting, nothing_waits, is_due, IsNext, HandsOn, none_due, one_due, KeepsMost, all_wait, one_more, BurstComes, Orders, none_came, one_came}
use Rattle.capture_rules.proofs.AtMost.{length-rest}
use Rattle.capture_rules.proofs.OneOrder.{view-same}

pub same-le : (a : ℕ) → a ≤ a
same-le a = omega arith

pub none-apart : (reorder clock : ℕ) → clock - clock ≤ reorder
none-apart reorder clock = omega arith

later-within : (reorder clock time oldest one : ℕ) → nat_lt reorder (max clock time - oldest) ≡ false → oldest ≤ one → max clock time - one ≤ reorder
later-within reorder clock time oldest one none later = let most = ltb-false reorder (max clock time - oldest) none in omega (arith, later, most)

module _ {T : Type 0} where
  -- it came before this time, and at most so long before it
  abbrev pub Past : ℕ → Waiting T → Type 0
  Past clock one = one.came ≤ clock

  abbrev pub Within : ℕ → ℕ → Waiting T → Type 0
  Within reorder clock one = clock - one.came ≤ reorder

  -- no burst stands after one that came later
  abbrev pub InOrderOfTimes : List (Waiting T) → Type 0
  InOrderOfTimes waiting = AllPairs (λ (earlier : Waiting T) (later : Waiting T). earlier.came ≤ later.came) waiting

  pub record IsTimely (reorder clock : ℕ) (waiting : List (Waiting T)) : Type 0 where
    pub sorted : InOrderOfTimes waiting
    pub past : All (Past clock) waiting
    pub within : All (Within reorder clock) waiting

  timely-none : (reorder clock : ℕ) → IsTimely reorder clock []
  timely-none reorder clock = record {
    sorted = λ i j d before below. absurd (omega (arith, below));
    past = All-nil _;
    within = All-nil _;
  }

  pub all-removed : (P : Waiting T → Type 0) (waiting : List (Waiting T)) (at : ℕ) → All P waiting → All P (remove waiting at)
  all-removed P waiting at all = All-append P _ _ (All-take P at waiting all) (All-drop P (suc at) waiting all)

  timely-rest : (reorder clock : ℕ) (waiting rest : List (Waiting T)) (next : HandedOn T) → IsNext waiting next rest → IsTimely reorder clock waiting → IsTimely reorder clock rest
  timely-rest reorder clock waiting rest next is timely =
      subst (IsTimely reorder clock) (sym is.others)
      (record {
        sorted = all_pairs_remove (λ (earlier : Waiting T) (later : Waiting T). earlier.came ≤ later.came) waiting is.at (slice_get_within waiting is.at is.one is.stands) timely.sorted;
        past = all-removed (Past clock) waiting is.at timely.past;
        within = all-removed (Within reorder clock) waiting is.at timely.within;
      })

  -- where none is due what waits is timely at the burst's time too
  module _ (reorder clock time : ℕ) (counts : ClockCounts) where
    timely-then : (waiting : List (Waiting T)) → is_due (record { reorder = reorder; clock = clock; counts = counts; waiting = waiting }) time ≡ false → IsTimely reorder clock waiting
        → IsTimely reorder (clock_at reorder clock time) waiting
    timely-then [] none timely = timely-none reorder _
    timely-then (oldest ∷ more) none timely =
        let parts = or_parts (is_set_back reorder clock time) (nat_lt reorder (max clock time - oldest.came)) none in
        subst (λ (c : ℕ). IsTimely reorder c (oldest ∷ more)) (sym (cond-false (is_set_back reorder clock time) time (max clock time) parts.0))
        (record {
          sorted = timely.sorted;
          past = All-weaker (Past clock) (Past (max clock time)) (λ (one : Waiting T) before. omega (arith, before)) (oldest ∷ more) timely.past;
          within = within parts.1;
        })
      where
        within : nat_lt reorder (max clock time - oldest.came) ≡ false → All (Within reorder (max clock time)) (oldest ∷ more)
        within last zero d below = ltb-false reorder (max clock time - oldest.came) last
        within last (suc k) d below = later-within reorder clock time oldest.came (get_or (oldest ∷ more) (suc k) d).came last (timely.sorted 0 (suc k) d (omega arith) below)

  pub timely-handed : {time : ℕ} {order left : OrderView T} {handed : List (HandedOn T)} → HandsOn time order handed left → IsTimely order.reorder order.clock order.waiting
      → (IsTimely order.reorder (clock_at order.reorder order.clock time) left.waiting) × ((left.reorder ≡ order.reorder) × ((left.clock ≡ order.clock) × (length left.waiting ≤ length order.waiting)))
  timely-handed {time = time} (none_due {order = order} none) timely = (timely-then order.reorder order.clock time order.counts order.waiting none timely, (refl, (refl, omega arith)))
  timely-handed {time = time} (one_due {order = order} {rest = rest} {next = next} due is_next more) timely =
      let later = timely-handed more (timely-rest order.reorder order.clock order.waiting rest next is_next timely) in
      let fewer = length-rest order.waiting rest next is_next in
      let most = later.1.1.1 in
      (later.0, (later.1.0, (later.1.1.0, omega (arith, fewer, most))))

  timely-pushed : (reorder clock : ℕ) (waiting : List (Waiting T)) (arrival : Arrival T) → IsTimely reorder clock waiting → IsTimely reorder clock (waiting ++ record { came = clock; arrival = arrival } ∷ [])
  timely-pushed reorder clock waiting arrival timely = record {
    sorted = all_pairs_push (λ (earlier : Waiting T) (later : Waiting T). earlier.came ≤ later.came) waiting (record { came = clock; arrival = arrival }) timely.sorted (λ k d below. timely.past k d below);
    past = All-push (Past clock) waiting (record { came = clock; arrival = arrival }) timely.past (same-le clock);
    within = All-push (Within reorder clock) waiting (record { came = clock; arrival = arrival }) timely.within (none-apart reorder clock);
  }

  timely-kept : (reorder clock : ℕ) {waiting rest : List (Waiting T)} {last : Option (HandedOn T)} → KeepsMost waiting last rest → IsTimely reorder clock waiting → IsTimely reorder clock rest
  timely-kept reorder clock (all_wait few) timely = timely
  timely-kept reorder clock {waiting = waiting} (one_more {next = next} {rest = rest} many is_next) timely = timely-rest reorder clock waiting rest next is_next timely

  few-kept : {waiting rest : List (Waiting T)} {last : Option (HandedOn T)} → KeepsMost waiting last rest → length waiting ≤ most_waiting + 1 → length rest ≤ most_waiting
  few-kept (all_wait few) size = few
  few-kept {waiting = waiting} (one_more {next = next} {rest = rest} many is_next) size = let fewer = length-rest waiting rest next is_next in omega (arith, fewer, size)

  -- **What is known of what waits**, whatever came
  pub record IsLately (order : OrderView T) : Type 0 where
    pub timely : IsTimely order.reorder order.clock order.waiting
    pub few : length order.waiting ≤ most_waiting

  lately-after : (order left : OrderView T) (one : Arrival T) (handed : List (HandedOn T)) → BurstComes order one handed left → IsLately order → IsLately left
  lately-after order left one handed p so_far =
      let clock = clock_at order.reorder order.clock one.time in
      let between = timely-handed p.hands_on so_far.timely in
      let fewer = between.1.1.1 in
      let few = so_far.few in
      let same : clock_at p.between.reorder p.between.clock one.time ≡ clock = ap (λ r. clock_at r p.between.clock one.time) between.1.0 ∙ ap (λ c. clock_at order.reorder c one.time) between.1.1.0 in
      let keeps = subst (λ c. KeepsMost (p.between.waiting ++ record { came = c; arrival = one } ∷ []) p.last left.waiting) same p.takes_in.keeps in
      let kept = timely-kept order.reorder clock keeps (timely-pushed order.reorder clock p.between.waiting one between.0) in
      let size = length-append p.between.waiting (record { came = clock; arrival = one } ∷ []) in
      let most = few-kept keeps (omega (arith, size, fewer, few)) in
      let is : record { reorder = order.reorder; clock = clock; counts = left.counts; waiting = left.waiting } ≡ left = view-same _ left (sym (p.takes_in.reorder ∙ between.1.0)) (sym (p.takes_in.clock ∙ same)) refl refl in
      subst IsLately is (record { timely = kept; few = most })

  pub left-lately : {order left : OrderView T} {came : List (Arrival T)} {handed : List (HandedOn T)} → Orders order came handed left → IsLately order → IsLately left
  left-lately none_came so_far = so_far
  left-lately (one_came {order = order} {between = between} {one = one} {due = due} now after) so_far = left-lately after (lately-after order between one due now so_far)

  pub lately-at_first : (reorder : ℕ) → IsLately (nothing_waits reorder)
  lately-at_first reorder = record { timely = timely-none reorder 0; few = omega arith }

  -- how long bursts wait stays as it is
  handing-keeps : {time : ℕ} {order left : OrderView T} {handed : List (HandedOn T)} → HandsOn time order handed left → left.reorder ≡ order.reorder
  handing-keeps (none_due none) = refl
  handing-keeps (one_due due is_next more) = handing-keeps more

  pub orders-keep : {order left : OrderView T} {came : List (Arrival T)} {handed : List (HandedOn T)} → Orders order came handed left → left.reorder ≡ order.reorder
  orders-keep none_came = refl
  orders-keep (one_came now after) = orders-keep after ∙ now.takes_in.reorder ∙ handing-keeps now.hands_on
