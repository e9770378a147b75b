-- Of the segments that were kept those are joined that are settled, and the others are held.
use Rattle.std.proofs.Common.{◌≡◌, ◌≢◌, ℕ, zero, suc, ◌+◌, ◌<◌, ◌≤◌, ◌&&◌, nat_le, cond, true, false, Bool, Option, None, Some, is_some, List, [], ◌∷◌, length, slice_get, count_by, ⊎_elim, refl, ap, sym, subst, ◌∙◌, arith}
use Rattle.std.specs.FinMap as map
use Rattle.std.specs.Option.{option_flatten}
use Rattle.std.proofs.lemmas.Bool.{false≢true, cases_eq, cases_lt, le-leb, le-ltb}
use Rattle.std.specs.Cmp.{second_so}
use Rattle.std.specs.Ordering.{nat_cmp}
use Rattle.std.proofs.lemmas.List.{length-map}
use Rattle.std.proofs.lemmas.List.Sums.{sum_by-cons, count_by-le-length}
use Rattle.docsis_wire.specs.declared.segment.Segment.{Segment}
use Rattle.reorder.proofs.Items.{get-insert_same, get-insert_other}
use Rattle.reorder.specs.declared.verdict.Verdict.TheVariants.{Late, Beyond, Repeat, Kept}
use Rattle.reorder.specs.declared.verdict.Declared.TheVariants.{NextIsHere, NothingHeld, Lost}
use Rattle.flow_core.specs.declared.event.Applied.{Applied}
use Rattle.flow_core.specs.declared.event.Applied.TheVariants.{Arrival, Decision, DecisionTo, DecisionSkip}
use Rattle.flow_core.specs.Counts.{says_kept}
use Rattle.flow_core.specs.Fates.{Fates, no_fates, kept_at, IsKept, IsOpen, IsExpected, IsSettledBelow}
use Rattle.flow_core.specs.Events.{FlowEvent, arrives, gap, gap_to, skip_to, LosesJust, Changes, Leads, IsAfter}
use Rattle.flow_core.proofs.Windows.{none-kept}
use Rattle.receiver.specs.Held.{was_kept, held_from}
use Rattle.receiver.proofs.CountedKeys.{as-many_alike, one-more}

-- how many were kept in all
abbrev kept_count : Fates → ℕ
kept_count fates = count_by (was_kept fates) (map.keys fates)

some-inside : (fate : Option (Option Segment)) → is_some (option_flatten fate) ≡ true → is_some fate ≡ true
some-inside None is = absurd (false≢true is)
some-inside (Some fate) is = refl

kept-there : (fates : Fates) (i : ℕ) → was_kept fates i ≡ true → map.contains_key fates i ≡ true
kept-there fates i is = some-inside (map.get fates i) is

kept-alike : (fates after : Fates) → ((i : ℕ) → kept_at after i ≡ kept_at fates i) → kept_count after ≡ kept_count fates
kept-alike fates after same = as-many_alike after fates (was_kept after) (kept-there after) (was_kept fates) (kept-there fates) (λ i. ap is_some (same i))

kept-more : (fates : Fates) (i : ℕ) (segment : Segment) → ¬ (IsKept fates i) → kept_count (map.insert fates i (Some segment)) ≡ suc (kept_count fates)
kept-more fates i segment free =
    let after = map.insert fates i (Some segment) in
    sym (one-more fates after (was_kept fates) (kept-there fates) (was_kept after) (kept-there after) i
    (ap is_some (none-kept fates i free))
    (ap (λ fate. is_some (option_flatten fate)) (get-insert_same fates i (Some segment)))
    (λ j other. ap (λ fate. is_some (option_flatten fate)) (sym (get-insert_other fates i (Some segment) j other))))

-- a lost index was open, so nothing that was kept changes
lost-alike : (fates : Fates) (x : ℕ) → IsOpen fates x → (i : ℕ) → kept_at (map.insert fates x None) i ≡ kept_at fates i
lost-alike fates x free i =
    ⊎_elim
    (λ (same : i ≡ x). ap (kept_at (map.insert fates x None)) same ∙ ap option_flatten (get-insert_same fates x None) ∙ sym (ap option_flatten free) ∙ ap (kept_at fates) (sym same))
    (λ (other : i ≢ x). ap option_flatten (get-insert_other fates x None i other))
    (cases_eq i x)

losing-alike : (P : ℕ → Type 0) (any : Bool) (fates after : Fates) → LosesJust P any fates after → ((i : ℕ) → P i → IsOpen fates i) → (i : ℕ) → kept_at after i ≡ kept_at fates i
losing-alike P any fates after loses free i = by (map.get fates i) refl (map.get after i) refl
  where
    by : (was : Option (Option Segment)) → map.get fates i ≡ was → (is : Option (Option Segment)) → map.get after i ≡ is → kept_at after i ≡ kept_at fates i
    by (Some fate) before is now = ap option_flatten (loses.others i (λ lost. let none = free i lost in absurd cc))
    by None before None now = ap option_flatten (now ∙ sym before)
    by None before (Some None) now = ap option_flatten now ∙ sym (ap option_flatten before)
    by None before (Some (Some segment)) now = ap option_flatten (loses.others i (λ lost. let none = loses.lost i lost in absurd cc))

no-more : (n m : ℕ) → n ≡ m → n ≡ m + 0
no-more n m same = omega arith

none-more : (n m : ℕ) → n ≡ m → n ≡ 0 + m
none-more n m same = omega arith

one-kept : (n m : ℕ) → n ≡ suc m → n ≡ m + 1
one-kept n m same = omega arith

-- an event keeps one more exactly if it is answered so
kept-by : (first width x : ℕ) (event : FlowEvent) (answer : Applied) (fates after : Fates) → IsExpected fates x → Changes first width x event answer fates after
    → kept_count after ≡ kept_count fates + cond (says_kept answer) 1 0
kept-by first width x (arrives came) (Arrival (Late back)) fates after expected changes = no-more (kept_count after) (kept_count fates) (ap kept_count changes.1)
kept-by first width x (arrives came) (Arrival (Beyond back)) fates after expected changes = no-more (kept_count after) (kept_count fates) (ap kept_count changes.1)
kept-by first width x (arrives came) (Arrival (Repeat back)) fates after expected changes = no-more (kept_count after) (kept_count fates) (ap kept_count changes.1)
kept-by first width x (arrives came) (Arrival Kept) fates after expected ((i, ahead, to, free), keeps) =
    one-kept (kept_count after) (kept_count fates) (ap kept_count (keeps i ahead) ∙ kept-more fates i came free)
kept-by first width x (arrives came) (Decision declared) fates after expected changes = absurd changes
kept-by first width x (arrives came) (DecisionTo declared) fates after expected changes = absurd changes
kept-by first width x (arrives came) (DecisionSkip skipped) fates after expected changes = absurd changes
kept-by first width x gap (Arrival verdict) fates after expected changes = absurd changes
kept-by first width x gap (Decision NextIsHere) fates after expected changes = absurd changes
kept-by first width x gap (Decision NothingHeld) fates after expected changes = no-more (kept_count after) (kept_count fates) (ap kept_count changes.1)
kept-by first width x gap (Decision (Lost number)) fates after expected changes =
    no-more (kept_count after) (kept_count fates) (ap kept_count changes.2 ∙ kept-alike fates (map.insert fates x None) (lost-alike fates x expected.open_itself))
kept-by first width x gap (DecisionTo declared) fates after expected changes = absurd changes
kept-by first width x gap (DecisionSkip skipped) fates after expected changes = absurd changes
kept-by first width x (gap_to number) (Arrival verdict) fates after expected changes = absurd changes
kept-by first width x (gap_to number) (Decision declared) fates after expected changes = absurd changes
kept-by first width x (gap_to number) (DecisionTo declared) fates after expected changes =
    no-more (kept_count after) (kept_count fates) (kept-alike fates after (losing-alike _ declared fates after changes (λ i lost. lost.open_itself)))
kept-by first width x (gap_to number) (DecisionSkip skipped) fates after expected changes = absurd changes
kept-by first width x (skip_to number) (Arrival verdict) fates after expected changes = absurd changes
kept-by first width x (skip_to number) (Decision declared) fates after expected changes = absurd changes
kept-by first width x (skip_to number) (DecisionTo declared) fates after expected changes = absurd changes
kept-by first width x (skip_to number) (DecisionSkip skipped) fates after expected changes =
    no-more (kept_count after) (kept_count fates) (kept-alike fates after (losing-alike _ skipped fates after changes (λ i lost. lost.open_itself)))

-- and so do events one after another
kept-leads : (first width : ℕ) (events : List FlowEvent) (answers : List Applied) (fates after : Fates) → Leads first width fates events answers after
    → kept_count after ≡ kept_count fates + count_by says_kept answers
kept-leads first width [] answers fates after is =
    subst (λ a. kept_count after ≡ kept_count fates + count_by says_kept a) (sym is.0) (no-more (kept_count after) (kept_count fates) (ap kept_count is.1))
kept-leads first width (event ∷ events) answers fates after (x, answer, rest, between, expected, changes, leads, are) =
    let now = kept-by first width x event answer fates between expected changes in
    let more = kept-leads first width events rest between after leads in
    let all = sum_by-cons (λ a. cond (says_kept a) 1 0) answer rest in
    subst (λ a. kept_count after ≡ kept_count fates + count_by says_kept a) (sym are) (omega arith)

none-kept_count : kept_count no_fates ≡ 0
none-kept_count =
    let most = count_by-le-length (was_kept no_fates) (map.keys no_fates) in
    let keys = length-map (map.entries no_fates) (λ entry. entry.0) in
    let entries = map.len-entries no_fates in
    let none = map.len-empty nat_cmp (Option Segment) in
    omega arith

-- as many were kept as were answered so
pub kept-in_all : (first width : ℕ) (events : List FlowEvent) (answers : List Applied) (fates : Fates) → IsAfter first width events answers fates
    → kept_count fates ≡ count_by says_kept answers
kept-in_all first width events answers fates is =
    let led = kept-leads first width events answers no_fates fates is in
    let none = none-kept_count in
    omega arith

held-there : (fates : Fates) (x i : ℕ) → (nat_le x i && was_kept fates i) ≡ true → map.contains_key fates i ≡ true
held-there fates x i is = kept-there fates i (second_so (nat_le x i) (was_kept fates i) is)

-- another index lies at the expected one or after it exactly if it lies after it
later-alike : (x i : ℕ) → i ≢ x → nat_le (suc x) i ≡ nat_le x i
later-alike x i other =
    ⊎_elim
    (λ (before : i < x). le-ltb x i (omega arith) ∙ sym (not-le x i before))
    (λ (from : x ≤ i). ⊎_elim
    (λ (later : x < i). le-leb (suc x) i (omega arith) ∙ sym (le-leb x i from))
    (λ (at : i ≤ x). absurd (other (omega arith)))
    (cases_lt x i))
    (cases_lt i x)
  where
    not-le : (x i : ℕ) → i < x → nat_le x i ≡ false
    not-le zero i before = absurd (omega arith)
    not-le (suc k) i before = le-ltb k i (omega arith)

-- what became of an index is one held segment more, if it was kept
held-next : (fates : Fates) (x : ℕ) (fate : Option Segment) → map.get fates x ≡ Some fate → held_from fates x ≡ cond (is_some fate) 1 0 + held_from fates (suc x)
held-next fates x (Some segment) is =
    sym (one-more fates fates (λ i. nat_le (suc x) i && was_kept fates i) (held-there fates (suc x)) (λ i. nat_le x i && was_kept fates i) (held-there fates x) x
    (ap (λ b. b && was_kept fates x) (le-ltb x x (omega arith)))
    (ap (λ b. b && was_kept fates x) (le-leb x x (omega arith)) ∙ ap (λ o. is_some (option_flatten o)) is)
    (λ i other. ap (λ b. b && was_kept fates i) (later-alike x i other)))
    ∙ sum-one (held_from fates (suc x))
  where
    sum-one : (n : ℕ) → suc n ≡ 1 + n
    sum-one n = omega arith
held-next fates x None is =
    none-more (held_from fates x) (held_from fates (suc x)) (as-many_alike fates fates (λ i. nat_le x i && was_kept fates i) (held-there fates x) (λ i. nat_le (suc x) i && was_kept fates i) (held-there fates (suc x))
    (λ i. ⊎_elim
    (λ (same : i ≡ x).
    let none : was_kept fates i ≡ false = ap (was_kept fates) same ∙ ap (λ o. is_some (option_flatten o)) is in
    both-fail (nat_le x i) (nat_le (suc x) i) (was_kept fates i) none)
    (λ (other : i ≢ x). ap (λ b. b && was_kept fates i) (sym (later-alike x i other)))
    (cases_eq i x)))
  where
    fails : (b c : Bool) → c ≡ false → (b && c) ≡ false
    fails true c none = none
    fails false c none = refl

    both-fail : (b b' c : Bool) → c ≡ false → (b && c) ≡ (b' && c)
    both-fail b b' c none = fails b c none ∙ sym (fails b' c none)

-- of what was kept from an index on, what is settled from there on is joined, and the rest is held
settled-held : (fates : Fates) (n : ℕ) (settled : List (Option Segment)) → ((i : ℕ) (fate : Option Segment) → slice_get settled i ≡ Some fate → map.get fates (n + i) ≡ Some fate)
    → held_from fates n ≡ count_by is_some settled + held_from fates (n + length settled)
settled-held fates n [] each = none-more (held_from fates n) (held_from fates (n + 0)) (ap (held_from fates) (no-more n n refl))
settled-held fates n (fate ∷ settled) each =
    let first = held-next fates n fate (subst (λ k. map.get fates k ≡ Some fate) (sym (no-more n n refl)) (each 0 fate refl)) in
    let rest = settled-held fates (suc n) settled (λ i one is. subst (λ k. map.get fates k ≡ Some one) (one-later n i) (each (suc i) one is)) in
    let all = sum_by-cons (λ (one : Option Segment). cond (is_some one) 1 0) fate settled in
    let end = ap (held_from fates) (one-later n (length settled)) in
    omega arith
  where
    one-later : (n i : ℕ) → n + suc i ≡ suc n + i
    one-later n i = omega arith

-- **The segments that were kept are those that are joined and those that are held.**
pub kept-joined-held : (first width x : ℕ) (events : List FlowEvent) (answers : List Applied) (fates : Fates) (settled : List (Option Segment))
    → IsAfter first width events answers fates → IsSettledBelow fates x settled → count_by says_kept answers ≡ count_by is_some settled + held_from fates x
kept-joined-held first width x events answers fates settled is below =
    let whole = settled-held fates 0 settled (λ i fate there. subst (λ k. map.get fates k ≡ Some fate) (sym (none-before i i refl)) (below.each i fate there)) in
    sym (kept-in_all first width events answers fates is)
    ∙ as-many_alike fates fates (was_kept fates) (kept-there fates) (λ i. nat_le 0 i && was_kept fates i) (held-there fates 0)
    (λ i. sym (ap (λ b. b && was_kept fates i) (le-leb 0 i (omega arith))))
    ∙ whole ∙ ap (λ n. count_by is_some settled + held_from fates n) (none-before (length settled) x below.size)
  where
    none-before : (n m : ℕ) → n ≡ m → 0 + n ≡ m
    none-before n m same = omega arith
