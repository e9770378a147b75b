-- Bursts that came nearly in order leave in order.
use Rattle.std.proofs.Common.{◌≡◌, ℕ, zero, suc, ◌+◌, ◌-◌, ◌<◌, ◌≤◌, ◌%◌, true, false, max, Option, None, Some, List, [], ◌∷◌, ◌++◌, length, slice_get, get_or, ⊎_elim, refl, ap, sym, subst, ◌∙◌, append_assoc, append-nil, ltb-true, arith}
use Rattle.std.specs.Prelude.{All, AllPairs, IsPermutation, nat_lt, option_to_list}
use Rattle.std.proofs.lemmas.Bool.{cond-true, cond-false, cases_Bool, or_cases}
use Rattle.std.proofs.lemmas.List.{map-append, length-append}
use Rattle.std.proofs.lemmas.List.Quantifiers.{all_pairs_remove, all_pairs_push}
use Rattle.std.proofs.lemmas.List.Elements.{All-nil, All-cons, All-head, All-tail, All-append, All-map, All-push}
use Rattle.std.proofs.lemmas.List.Sorted.{All-permutation, IsPermutation-refl, IsPermutation-cons, IsPermutation-trans, IsPermutation-append_left}
use Rattle.std.proofs.lemmas.Option.{same_Some, none-some, slice_get_within, slice_get-get_or, get_or_from_slice_get}
use Rattle.capture_rules.specs.declared.arrival.Arrival.{Arrival}
use Rattle.capture_rules.specs.declared.arrival.HandedOn.{HandedOn}
use Rattle.capture_rules.specs.declared.arrival.Waiting.{Waiting}
use Rattle.capture_rules.specs.declared.clock_counts.ClockCounts.{ClockCounts}
use Rattle.capture_rules.specs.Clock.{is_set_back, clock_at}
use Rattle.capture_rules.specs.Order.{OrderView, most_waiting, place_from, place_of, is_due, IsNext, HandsOn, none_due, one_due, KeepsMost, all_wait, one_more, HandsOnAll, none_waits, one_waits, Orders, none_came, one_came, arrivals_of, bursts_of}
use Rattle.capture_rules.specs.Turns.{clocked, InTurn, HasPlace, CameBefore, FewWait}
use Rattle.capture_rules.proofs.Lately.{IsTimely, all-removed, timely-handed, same-le, none-apart}
use Rattle.capture_rules.proofs.NoneLost.{next-others}

-- where a number stands among those near another one, by their places
place-is : (o a : ℕ) → o < a + 4096 → a < o + 4096 → place_from (o % 8192) (a % 8192) + o ≡ a + 4096
place-is o a near_o near_a = omega (arith, near_o, near_a)

module _ {X : Type 0} (R : X → X → Type 0) where
  all_pairs_cons : (x : X) (xs : List X) → All (R x) xs → AllPairs R xs → AllPairs R (x ∷ xs)
  all_pairs_cons x xs first others zero zero d before below = absurd (omega (arith, before))
  all_pairs_cons x xs first others zero (suc j) d before below = first j d (omega (arith, below))
  all_pairs_cons x xs first others (suc i) zero d before below = absurd (omega (arith, before))
  all_pairs_cons x xs first others (suc i) (suc j) d before below = others i j d (omega (arith, before)) (omega (arith, below))

  all_pairs_first : (x : X) (xs : List X) → AllPairs R (x ∷ xs) → All (R x) xs
  all_pairs_first x xs pairs j d below = pairs 0 (suc j) d (omega arith) (omega (arith, below))

  all_pairs_others : (x : X) (xs : List X) → AllPairs R (x ∷ xs) → AllPairs R xs
  all_pairs_others x xs pairs i j d before below = pairs (suc i) (suc j) d (omega (arith, before)) (omega (arith, below))

module _ {T : Type 0} (reorder : ℕ) (place : Arrival T → ℕ) where
  abbrev pub Turn : Arrival T → Arrival T → Type 0
  Turn = InTurn reorder place

  abbrev pub Before : Waiting T → Waiting T → Type 0
  Before = CameBefore reorder place

  -- what waits came within `reorder` by the clock, which is the time of the last burst, and so on
  pub record IsTidy (clock : ℕ) (waiting : List (Waiting T)) : Type 0 where
    pub places : All (λ (one : Waiting T). HasPlace reorder place one.arrival) waiting
    pub past : All (λ (one : Waiting T). one.came ≤ clock) waiting
    pub within : All (λ (one : Waiting T). clock - one.came ≤ reorder) waiting
    pub pairs : AllPairs Before waiting

  at : (P : Waiting T → Type 0) (waiting : List (Waiting T)) (k : ℕ) (one : Waiting T) → slice_get waiting k ≡ Some one → All P waiting → P one
  at P waiting k one stands all = subst P (get_or_from_slice_get waiting k one one stands) (all k one (slice_get_within waiting k one stands))

  -- the oldest one came before any other
  oldest-before : (waiting : List (Waiting T)) (oldest one : Waiting T) (k : ℕ) → slice_get waiting 0 ≡ Some oldest → slice_get waiting (suc k) ≡ Some one → AllPairs Before waiting → Before oldest one
  oldest-before waiting oldest one k stands_first stands pairs =
      subst (λ (x : Waiting T). Before x one) (get_or_from_slice_get waiting 0 oldest one stands_first)
      (subst (λ (x : Waiting T). Before (get_or waiting 0 one) x) (get_or_from_slice_get waiting (suc k) one one stands)
      (pairs 0 (suc k) one (omega arith) (slice_get_within waiting (suc k) one stands)))

  -- and stands within half of all numbers of it, where both came on one channel
  oldest-near : (clock : ℕ) (waiting : List (Waiting T)) → IsTidy clock waiting → (oldest one : Waiting T) (k : ℕ) → slice_get waiting 0 ≡ Some oldest → slice_get waiting k ≡ Some one
      → one.arrival.channel ≡ oldest.arrival.channel → (place oldest.arrival < place one.arrival + 4096) × (place one.arrival < place oldest.arrival + 4096)
  oldest-near clock waiting tidy oldest one zero stands_first stands same =
      let is : place one.arrival ≡ place oldest.arrival = ap (λ (x : Waiting T). place x.arrival) (same_Some one oldest (sym stands ∙ stands_first)) in
      (omega (arith, is), omega (arith, is))
  oldest-near clock waiting tidy oldest one (suc k) stands_first stands same =
      let before = oldest-before waiting oldest one k stands_first stands tidy.pairs in
      let old = at (λ (x : Waiting T). clock - x.came ≤ reorder) waiting 0 oldest stands_first tidy.within in
      let new = at (λ (x : Waiting T). x.came ≤ clock) waiting (suc k) one stands tidy.past in
      before.near (omega (arith, old, new)) same

  -- the next one stands before each that waits
  next-in_turn : (clock : ℕ) (waiting rest : List (Waiting T)) (next : HandedOn T) → IsTidy clock waiting → IsNext waiting next rest
      → (k : ℕ) (other : Waiting T) → slice_get waiting k ≡ Some other → Turn next.arrival other.arrival
  next-in_turn clock waiting rest next tidy p k other stands same =
      let itself : next.arrival.channel ≡ p.oldest.arrival.channel = ap (λ (x : Arrival T). x.channel) p.itself ∙ p.of_channel in
      let near_one = oldest-near clock waiting tidy p.oldest p.one p.at p.stands_first p.stands p.of_channel in
      let near_other = oldest-near clock waiting tidy p.oldest other k p.stands_first stands (same ∙ itself) in
      let least = p.least k other stands (same ∙ itself) in
      let o = at (λ (x : Waiting T). HasPlace reorder place x.arrival) waiting 0 p.oldest p.stands_first tidy.places in
      let a = at (λ (x : Waiting T). HasPlace reorder place x.arrival) waiting p.at p.one p.stands tidy.places in
      let b = at (λ (x : Waiting T). HasPlace reorder place x.arrival) waiting k other stands tidy.places in
      let one_is : place_of p.oldest p.one ≡ place_from (place p.oldest.arrival % 8192) (place p.one.arrival % 8192) = ap (λ n. place_from n p.one.arrival.number) o ∙ ap (place_from (place p.oldest.arrival % 8192)) a in
      let other_is : place_of p.oldest other ≡ place_from (place p.oldest.arrival % 8192) (place other.arrival % 8192) = ap (λ n. place_from n other.arrival.number) o ∙ ap (place_from (place p.oldest.arrival % 8192)) b in
      let one_at = place-is (place p.oldest.arrival) (place p.one.arrival) near_one.0 near_one.1 in
      let other_at = place-is (place p.oldest.arrival) (place other.arrival) near_other.0 near_other.1 in
      let said : place next.arrival ≡ place p.one.arrival = ap place p.itself in
      omega (arith, least, one_is, other_is, one_at, other_at, said)

  -- What waits, and what comes then.
  pub record IsComing (clock : ℕ) (waiting more : List (Waiting T)) : Type 0 where
    pub tidy : IsTidy clock waiting
    pub cross : All (λ (one : Waiting T). All (Before one) more) waiting
    pub places : All (λ (one : Waiting T). HasPlace reorder place one.arrival) more
    pub pairs : AllPairs Before more
    pub times : All (λ (one : Waiting T). clock ≤ one.came) more

  tidy-rest : (clock : ℕ) (waiting rest : List (Waiting T)) (next : HandedOn T) → IsNext waiting next rest → IsTidy clock waiting → IsTidy clock rest
  tidy-rest clock waiting rest next p tidy =
      subst (IsTidy clock) (sym p.others)
      (record {
        places = all-removed (λ (one : Waiting T). HasPlace reorder place one.arrival) waiting p.at tidy.places;
        past = all-removed (λ (one : Waiting T). one.came ≤ clock) waiting p.at tidy.past;
        within = all-removed (λ (one : Waiting T). clock - one.came ≤ reorder) waiting p.at tidy.within;
        pairs = all_pairs_remove Before waiting p.at (slice_get_within waiting p.at p.one p.stands) tidy.pairs;
      })

  coming-rest : (clock : ℕ) (waiting rest : List (Waiting T)) (next : HandedOn T) (more : List (Waiting T)) → IsNext waiting next rest → IsComing clock waiting more → IsComing clock rest more
  coming-rest clock waiting rest next more p coming = record {
    tidy = tidy-rest clock waiting rest next p coming.tidy;
    cross = subst (All (λ (one : Waiting T). All (Before one) more)) (sym p.others) (all-removed (λ (one : Waiting T). All (Before one) more) waiting p.at coming.cross);
    places = coming.places;
    pairs = coming.pairs;
    times = coming.times;
  }

  -- these leave in their turn, and are those that were there
  abbrev pub Leaves : List (Arrival T) → List (Arrival T) → Type 0
  Leaves there out = AllPairs Turn out × IsPermutation there out

  leaves-next : (clock : ℕ) (waiting rest : List (Waiting T)) (next : HandedOn T) (more out : List (Arrival T)) → IsTidy clock waiting → IsNext waiting next rest → All (Turn next.arrival) more
      → Leaves (bursts_of rest ++ more) out → Leaves (bursts_of waiting ++ more) (next.arrival ∷ out)
  leaves-next clock waiting rest next more out tidy p before_more (turns, are) =
      let before_all : All (λ (one : Waiting T). Turn next.arrival one.arrival) waiting = λ k d below. next-in_turn clock waiting rest next tidy p k (get_or waiting k d) (slice_get-get_or waiting k d below) in
      let before_rest : All (λ (one : Waiting T). Turn next.arrival one.arrival) rest =
      subst (All (λ (one : Waiting T). Turn next.arrival one.arrival)) (sym p.others) (all-removed (λ (one : Waiting T). Turn next.arrival one.arrival) waiting p.at before_all) in
      let before_left = All-append (Turn next.arrival) (bursts_of rest) more (All-map (Turn next.arrival) (λ (one : Waiting T). one.arrival) rest before_rest) before_more in (
        all_pairs_cons Turn next.arrival out (All-permutation (Turn next.arrival) (bursts_of rest ++ more) out are before_left) turns,
        IsPermutation-trans (bursts_of waiting ++ more) (next.arrival ∷ (bursts_of rest ++ more)) (next.arrival ∷ out)
            (IsPermutation-append_left more (bursts_of waiting) (next.arrival ∷ bursts_of rest) (next-others waiting rest next p))
            (IsPermutation-cons next.arrival (bursts_of rest ++ more) out are),
      )

  leaves-all : (clock : ℕ) {waiting : List (Waiting T)} {last : List (HandedOn T)} → HandsOnAll waiting last → IsTidy clock waiting → Leaves (bursts_of waiting ++ []) (arrivals_of last)
  leaves-all clock none_waits tidy = (λ i j d before below. absurd (omega (arith, below)), IsPermutation-refl [])
  leaves-all clock (one_waits {waiting = waiting} {rest = rest} {next = next} {later = later} p later_ones) tidy =
      leaves-next clock waiting rest next [] (arrivals_of later) tidy p (All-nil (Turn next.arrival)) (leaves-all clock later_ones (tidy-rest clock waiting rest next p tidy))

  -- a clock that isn't set back is the greater one of what it was and of the burst's time
  clock-most : (r clock time : ℕ) → clock ≤ clock_at r clock time → clock_at r clock time ≡ max clock time
  clock-most r clock time later =
      ⊎_elim
      (λ (back : is_set_back r clock time ≡ true). let is = cond-true (is_set_back r clock time) time (max clock time) back in omega (arith, is, later))
      (λ (on : is_set_back r clock time ≡ false). cond-false (is_set_back r clock time) time (max clock time) on)
      (cases_Bool (is_set_back r clock time))

  -- where the oldest one is due it has waited for longer than `reorder`
  due-oldest : (r clock time : ℕ) (counts : ClockCounts) (waiting : List (Waiting T)) (oldest : Waiting T) → slice_get waiting 0 ≡ Some oldest → clock ≤ clock_at r clock time
      → is_due (record { reorder = r; clock = clock; counts = counts; waiting = waiting }) time ≡ true → r < clock_at r clock time - oldest.came
  due-oldest r clock time counts [] oldest stands later due = absurd (none-some _ stands)
  due-oldest r clock time counts (first ∷ others) oldest stands later due =
      let same : first.came ≡ oldest.came = ap (λ (x : Waiting T). x.came) (same_Some first oldest stands) in
      ⊎_elim
      (λ back. let less = ltb-true r (clock - time) back in let is = cond-true (is_set_back r clock time) time (max clock time) back in absurd (omega (arith, less, later, is)))
      (λ long. let less = ltb-true r (max clock time - first.came) long in let is = clock-most r clock time later in omega (arith, less, is, same))
      (or_cases (is_set_back r clock time) (nat_lt r (max clock time - first.came)) due)

  -- and one that is handed on then stands before all that come
  due-in_turn : (clock time : ℕ) (waiting rest : List (Waiting T)) (next : HandedOn T) (more : List (Waiting T)) → IsComing clock waiting more → (p : IsNext waiting next rest)
      → reorder < time - p.oldest.came → All (λ (one : Waiting T). time ≤ one.came) more → All (λ (one : Waiting T). Turn next.arrival one.arrival) more
  due-in_turn clock time waiting rest next more coming p long later k d below same =
      let x = get_or more k d in
      let itself : next.arrival.channel ≡ p.oldest.arrival.channel = ap (λ (y : Arrival T). y.channel) p.itself ∙ p.of_channel in
      let before = at (λ (one : Waiting T). All (Before one) more) waiting 0 p.oldest p.stands_first coming.cross k d below in
      let later_one : time ≤ x.came = later k d below in
      let oldest_first = before.turn (omega (arith, long, later_one)) (same ∙ itself) in
      let next_first = next-in_turn clock waiting rest next coming.tidy p 0 p.oldest p.stands_first (sym itself) in
      omega (arith, oldest_first, next_first)

  leaves-due : {time : ℕ} {order left : OrderView T} {handed : List (HandedOn T)} → HandsOn time order handed left → order.reorder ≡ reorder → order.clock ≤ clock_at order.reorder order.clock time
      → (more : List (Waiting T)) → IsComing order.clock order.waiting more → All (λ (one : Waiting T). clock_at order.reorder order.clock time ≤ one.came) more → (out : List (Arrival T))
      → Leaves (bursts_of left.waiting ++ bursts_of more) out → Leaves (bursts_of order.waiting ++ bursts_of more) (arrivals_of handed ++ out)
  leaves-due (none_due none) waits_so past more coming later out leaves = leaves
  leaves-due {time = time} (one_due {order = order} {rest = rest} {next = next} {later = others} due p handed) waits_so past more coming later out leaves =
      let long = due-oldest order.reorder order.clock time order.counts order.waiting p.oldest p.stands_first past due in
      let then = clock_at order.reorder order.clock time in
      let over : reorder < then - p.oldest.came = subst (λ r. r < then - p.oldest.came) waits_so long in
      leaves-next order.clock order.waiting rest next (bursts_of more) (arrivals_of others ++ out) coming.tidy p
      (All-map (Turn next.arrival) (λ (one : Waiting T). one.arrival) more (due-in_turn order.clock then order.waiting rest next more coming p over later))
      (leaves-due handed waits_so past more (coming-rest order.clock order.waiting rest next more p coming) later out leaves)

  coming-due : {time : ℕ} {order left : OrderView T} {handed : List (HandedOn T)} → HandsOn time order handed left → (more : List (Waiting T)) → IsComing order.clock order.waiting more → IsComing order.clock left.waiting more
  coming-due (none_due none) more coming = coming
  coming-due (one_due {order = order} {rest = rest} {next = next} due p handed) more coming = coming-due handed more (coming-rest order.clock order.waiting rest next more p coming)

  tidy-at : (clock time : ℕ) (waiting : List (Waiting T)) → IsTidy clock waiting → All (λ (one : Waiting T). one.came ≤ time) waiting → All (λ (one : Waiting T). time - one.came ≤ reorder) waiting → IsTidy time waiting
  tidy-at clock time waiting tidy past within = record { places = tidy.places; past = past; within = within; pairs = tidy.pairs }

  tidy-timely : (clock : ℕ) (waiting : List (Waiting T)) → IsTidy clock waiting → IsTimely reorder clock waiting
  tidy-timely clock waiting tidy = record {
    sorted = λ i j d before below. (tidy.pairs i j d before below).times;
    past = tidy.past;
    within = tidy.within;
  }

  -- no more than may wait do, so none is handed on for that
  kept-all : {waiting rest : List (Waiting T)} {last : Option (HandedOn T)} → KeepsMost waiting last rest → length waiting ≤ most_waiting → (rest ≡ waiting) × (last ≡ None)
  kept-all (all_wait few) size = (refl, refl)
  kept-all (one_more many next) size = absurd (omega (arith, many, size))

  -- one more waits
  coming-taken : (clock : ℕ) (waiting : List (Waiting T)) (one : Waiting T) (more : List (Waiting T)) → IsComing clock waiting (one ∷ more) → IsTidy one.came waiting
      → IsComing one.came (waiting ++ one ∷ []) more
  coming-taken clock waiting one more coming tidy =
      let first : All (λ (x : Waiting T). Before x one) waiting = λ k d below. All-head (Before (get_or waiting k d)) one more (coming.cross k d below) in
      let behind = all_pairs_first Before one more coming.pairs in
      record {
        tidy = record {
          places = All-push (λ (x : Waiting T). HasPlace reorder place x.arrival) waiting one tidy.places (All-head (λ (x : Waiting T). HasPlace reorder place x.arrival) one more coming.places);
          past = All-push (λ (x : Waiting T). x.came ≤ one.came) waiting one tidy.past (same-le one.came);
          within = All-push (λ (x : Waiting T). one.came - x.came ≤ reorder) waiting one tidy.within (none-apart reorder one.came);
          pairs = all_pairs_push Before waiting one tidy.pairs first;
        };
        cross = All-push (λ (x : Waiting T). All (Before x) more) waiting one (λ k d below. All-tail (Before (get_or waiting k d)) one more (coming.cross k d below)) behind;
        places = All-tail (λ (x : Waiting T). HasPlace reorder place x.arrival) one more coming.places;
        pairs = all_pairs_others Before one more coming.pairs;
        times = λ k d below. (behind k d below).times;
      }

  -- what comes with its times is what comes
  clocked-bursts : (clock : ℕ) (came : List (Arrival T)) → bursts_of (clocked reorder clock came) ≡ came
  clocked-bursts clock [] = refl
  clocked-bursts clock (one ∷ more) = ap (λ (xs : List (Arrival T)). one ∷ xs) (clocked-bursts (clock_at reorder clock one.time) more)

  pub leaves-orders : {order left : OrderView T} {came : List (Arrival T)} {handed last : List (HandedOn T)} → Orders order came handed left → order.reorder ≡ reorder → FewWait order came
      → IsComing order.clock order.waiting (clocked reorder order.clock came) → HandsOnAll left.waiting last → Leaves (bursts_of order.waiting ++ came) (arrivals_of handed ++ arrivals_of last)
  leaves-orders (none_came {order = order}) waits_so few coming ends = leaves-all order.clock ends coming.tidy
  leaves-orders {last = last} (one_came {order = order} {between = between} {left = left} {one = one} {more = more} {due = due} {later = later} p after) waits_so few coming ends =
      let time = clock_at reorder order.clock one.time in
      let new : Waiting T = record { came = time; arrival = one } in
      let rest = clocked reorder time more in
      let said : clock_at order.reorder order.clock one.time ≡ time = ap (λ r. clock_at r order.clock one.time) waits_so in
      let past : order.clock ≤ time = All-head (λ (x : Waiting T). order.clock ≤ x.came) new rest coming.times in
      let behind = all_pairs_first Before new rest coming.pairs in
      let later_all : All (λ (x : Waiting T). time ≤ x.came) (new ∷ rest) = All-cons (λ (x : Waiting T). time ≤ x.came) new rest (same-le time) (λ k d below. (behind k d below).times) in
      let then = coming-due p.hands_on (new ∷ rest) coming in
      let timely = timely-handed p.hands_on (subst (λ r. IsTimely r order.clock order.waiting) (sym waits_so) (tidy-timely order.clock order.waiting coming.tidy)) in
      let at_time : IsTimely reorder time p.between.waiting = subst (λ r. IsTimely r time p.between.waiting) waits_so (subst (λ t. IsTimely order.reorder t p.between.waiting) said timely.0) in
      let taken = coming-taken order.clock p.between.waiting new rest then (tidy-at order.clock time p.between.waiting then.tidy at_time.past at_time.within) in
      let same : clock_at p.between.reorder p.between.clock one.time ≡ time = ap (λ r. clock_at r p.between.clock one.time) timely.1.0 ∙ ap (λ t. clock_at order.reorder t one.time) timely.1.1.0 ∙ said in
      let all_of : ℕ → List (Waiting T) = λ t. p.between.waiting ++ record { came = t; arrival = one } ∷ [] in
      let keeps : KeepsMost (all_of time) p.last between.waiting = subst (λ t. KeepsMost (all_of t) p.last between.waiting) same p.takes_in.keeps in
      let wait_now : length order.waiting < most_waiting = few [] (one ∷ more) [] order refl none_came in
      let fewer = timely.1.1.1 in
      let size = length-append p.between.waiting (new ∷ []) in
      let kept = kept-all keeps (omega (arith, wait_now, fewer, size)) in
      let clock_then : between.clock ≡ time = p.takes_in.clock ∙ same in
      let waits_then : between.reorder ≡ reorder = p.takes_in.reorder ∙ timely.1.0 ∙ waits_so in
      let coming_then : IsComing between.clock between.waiting (clocked reorder between.clock more) =
      subst (λ t. IsComing t between.waiting (clocked reorder t more)) (sym clock_then) (subst (λ (w : List (Waiting T)). IsComing time w rest) (sym kept.0) taken) in
      let few_then : FewWait between more = λ front others handed left' is orders. few (one ∷ front) others (due ++ handed) left' (ap (λ (xs : List (Arrival T)). one ∷ xs) is) (one_came p orders) in
      let out = leaves-orders after waits_then few_then coming_then ends in
      let rest_is : bursts_of rest ≡ more = clocked-bursts time more in
      let there : bursts_of between.waiting ++ more ≡ bursts_of p.between.waiting ++ (one ∷ bursts_of rest) =
      ap (λ (w : List (Waiting T)). bursts_of w ++ more) kept.0 ∙ ap (λ (xs : List (Arrival T)). xs ++ more) (map-append (λ (x : Waiting T). x.arrival) p.between.waiting (new ∷ []))
      ∙ append_assoc (bursts_of p.between.waiting) (one ∷ []) more ∙ ap (λ (xs : List (Arrival T)). bursts_of p.between.waiting ++ (one ∷ xs)) (sym rest_is) in
      let due_is : due ≡ p.due = p.all ∙ ap (λ (o : Option (HandedOn T)). p.due ++ option_to_list o) kept.1 ∙ append-nil p.due in
      let past_so : order.clock ≤ clock_at order.reorder order.clock one.time = subst (λ t. order.clock ≤ t) (sym said) past in
      let later_so : All (λ (x : Waiting T). clock_at order.reorder order.clock one.time ≤ x.came) (new ∷ rest) = subst (λ t. All (λ (x : Waiting T). t ≤ x.came) (new ∷ rest)) (sym said) later_all in
      let before = leaves-due p.hands_on waits_so past_so (new ∷ rest) coming later_so (arrivals_of later ++ arrivals_of last) (subst (λ (xs : List (Arrival T)). Leaves xs (arrivals_of later ++ arrivals_of last)) there out) in
      subst (λ (xs : List (Arrival T)). Leaves (bursts_of order.waiting ++ (one ∷ xs)) (arrivals_of (due ++ later) ++ arrivals_of last)) rest_is
      (subst (Leaves (bursts_of order.waiting ++ (one ∷ bursts_of rest)))
      (sym (append_assoc (arrivals_of p.due) (arrivals_of later) (arrivals_of last)) ∙ ap (λ (xs : List (Arrival T)). xs ++ arrivals_of last)
      (sym (map-append (λ (x : HandedOn T). x.arrival) p.due later) ∙ ap (λ (ds : List (HandedOn T)). arrivals_of (ds ++ later)) (sym due_is)))
      before)

  pub coming-at_first : (came : List (Waiting T)) → All (λ (one : Waiting T). HasPlace reorder place one.arrival) came → AllPairs Before came → IsComing 0 [] came
  coming-at_first came places pairs = record {
    tidy = record {
      places = All-nil (λ (one : Waiting T). HasPlace reorder place one.arrival);
      past = All-nil (λ (one : Waiting T). one.came ≤ 0);
      within = All-nil (λ (one : Waiting T). 0 - one.came ≤ reorder);
      pairs = λ i j d before below. absurd (omega (arith, below));
    };
    cross = All-nil (λ (one : Waiting T). All (Before one) came);
    places = places;
    pairs = pairs;
    times = λ k d below. omega arith;
  }
