-- What a flow stands for, put together and taken apart.
use Rattle.std.proofs.Common.{◌≡◌, ℕ, ◌<◌, ◌≤◌, ◌⊎◌, inl, inr, ⊎_elim, Bool, true, Option, None, Some, IsSome, is_some, List, [], ◌∷◌, ◌++◌, length, get_or, refl, sym, ap, subst, ◌∙◌, arith}
use Rattle.std.specs.Option.{option_flatten}
use Rattle.std.specs.FinMap as map
use Rattle.std.proofs.lemmas.Bool.{cases_lt}
use Rattle.std.proofs.lemmas.Option.{slice_get-get_or, slice_get_within}
use Rattle.std.specs.Ordering.{nat_cmp}
use Rattle.reorder.specs.View.{IsLawful, empty_window}
use Rattle.flow_records.specs.Setup.{IsInRange}
use Rattle.flow_core.specs.Fates.{no_fates}
use Rattle.flow_core.proofs.FlowCounting.{counts-new}
use Rattle.flow_core.proofs.Windows.{window-new}
use Rattle.docsis_wire.specs.declared.segment.Segment.{Segment}
use Rattle.ccf.specs.Join.{Joins}
use Rattle.reorder.specs.View.{held_at}
use Rattle.flow_records.specs.declared.record.FlowRecord.{FlowRecord}
use Rattle.flow_core.specs.declared.flow.Flow.{Flow}
use Rattle.flow_core.specs.declared.up_to.UpTo.{UpTo}
use Rattle.flow_core.specs.declared.event.Applied.{Applied}
use Rattle.flow_core.specs.Fates.{Fates, number_of, IsKept, IsLost, IsOpen, IsExpected, IsSettledBelow}
use Rattle.flow_core.specs.Events.{FlowEvent, Changes, IsAfter}
use Rattle.flow_core.specs.Counts.{no_counts, AreCounts}
use Rattle.flow_core.specs.Stands.{IsWindowFrom, IsRemembered, StandsFor, IsDrained}
use Rattle.flow_core.proofs.Outcome.{IsSound, sound-after, sound-changes, after-append, settled-stays}
use Rattle.flow_core.proofs.Windows.{some-none, free-kept}

-- an index of which it is known what became of it
fate-cases : (fates : Fates) (i : ℕ) (fate : Option (Option Segment)) → map.get fates i ≡ fate → is_some fate ≡ true → IsKept fates i ⊎ IsLost fates i
fate-cases fates i None is some = absurd (cc)
fate-cases fates i (Some None) is some = inr is
fate-cases fates i (Some (Some segment)) is some = inl (segment, is)

pub settled-cases : (fates : Fates) (i : ℕ) → IsSome (map.get fates i) → IsKept fates i ⊎ IsLost fates i
settled-cases fates i some = fate-cases fates i (map.get fates i) refl some

pub open-apart : (fates : Fates) (i : ℕ) → IsOpen fates i → IsSome (map.get fates i) → ⊥
open-apart fates i free some = let tests = ap is_some free in cc

-- no index is open and kept, or kept and lost
pub open-kept : (fates : Fates) (i : ℕ) → IsOpen fates i → IsKept fates i → ⊥
open-kept fates i free kept = open-apart fates i free (ap is_some kept.1)

pub kept-not-lost : (segment : Segment) → Some (Some segment) ≡ Some None → ⊥
kept-not-lost segment same = let tests = ap (λ (o : Option (Option Segment)). is_some (option_flatten o)) same in cc

-- what is listed as settled is settled
pub listed-settled : (fates : Fates) (n : ℕ) (settled : List (Option Segment)) → IsSettledBelow fates n settled → (i : ℕ) → i < n → IsSome (map.get fates i)
listed-settled fates n settled below i near =
    let size = below.size in
    let within : i < length settled = omega arith in
    ap is_some (below.each i (get_or settled i None) (slice_get-get_or settled i None within))

-- so the expected index is not before the end of the list
pub expected-after : (fates : Fates) (x n : ℕ) (settled : List (Option Segment)) → IsExpected fates x → IsSettledBelow fates n settled → n ≤ x
expected-after fates x n settled expected below =
    ⊎_elim
    (λ (early : x < n). absurd (open-apart fates x expected.open_itself (listed-settled fates n settled below x early)))
    (λ (late : n ≤ x). late)
    (cases_lt x n)

-- where nothing is remembered the index itself is not lost
remembered-kept : (first y : ℕ) (fates : Fates) (going_on : Option UpTo) → IsRemembered first fates y going_on → ¬ (IsLost fates y)
remembered-kept first y fates None remembered lost = remembered y (omega arith) lost
remembered-kept first y fates (Some u) remembered lost = ((remembered.4 y (omega arith)).0 lost).1 remembered.3

-- put together
pub stands : (check : List ℕ → Bool) (r : FlowRecord) (flow : Flow) (events : List FlowEvent) (answers : List Applied) (y : ℕ) (given : List (List ℕ))
    (fates : Fates) (x : ℕ) (settled : List (Option Segment))
    → IsAfter r.first r.window events answers fates → IsExpected fates x → IsWindowFrom r fates y flow.window
    → IsRemembered r.first fates y flow.going_on
    → IsSettledBelow fates y settled → Joins check [] settled given flow.joiner → AreCounts answers settled given flow.joiner flow.counts
    → (whole : StandsFor check r flow events answers y given) × (whole.fates ≡ fates)
stands check r flow events answers y given fates x settled after expected window remembered below joined counts =
    let upto = expected-after fates x y settled expected below in (
      record {
        fates = fates;
        after = after;
        x = x;
        expected = expected;
        come_to = ⊎_elim
            (λ (before : y < x). inr (before, ⊎_elim (λ kept. kept) (λ lost. absurd (remembered-kept r.first y fates _ remembered lost)) (settled-cases fates y (expected.settled y before))))
            (λ (past : x ≤ y). inl (omega arith))
            (cases_lt y x);
        window = window;
        remembered = remembered;
        settled = settled;
        below = below;
        joined = joined;
        counts = counts;
      },
      refl,
    )

-- A drained flow has come to the expected index, and nothing is lost from there on.
pub drained-at : (check : List ℕ → Bool) (r : FlowRecord) (flow : Flow) (events : List FlowEvent) (answers : List Applied) (y : ℕ) (given : List (List ℕ))
    → (s : StandsFor check r flow events answers y given) → IsDrained flow → y ≡ s.x
drained-at check r flow events answers y given s drained =
    let none : held_at flow.window (number_of r.first y) ≡ None = ap (held_at flow.window) (sym s.window.number) ∙ drained in
    ⊎_elim
    (λ same. same)
    (λ before. absurd (free-kept r s.fates y flow.window s.window y (omega arith) none before.1))
    s.come_to

pub drained-sound : (check : List ℕ → Bool) (r : FlowRecord) (flow : Flow) (events : List FlowEvent) (answers : List Applied) (y : ℕ) (given : List (List ℕ))
    → (s : StandsFor check r flow events answers y given) → IsDrained flow → IsSound r.window s.fates y
drained-sound check r flow events answers y given s drained =
    subst (λ x. IsSound r.window s.fates x) (sym (drained-at check r flow events answers y given s drained))
    (sound-after r.first r.window events answers s.fates s.x s.after s.expected)

-- One more event of a drained flow, with a window and a memory that fit what the event changes: the
-- flow stands for it too.
pub stands-next : (check : List ℕ → Bool) (r : FlowRecord) (flow after : Flow) (events : List FlowEvent) (answers : List Applied) (y : ℕ) (given : List (List ℕ))
    (event : FlowEvent) (answer : Applied) (fates : Fates)
    → (s : StandsFor check r flow events answers y given) → IsDrained flow
    → Changes r.first r.window y event answer s.fates fates
    → IsWindowFrom r fates y after.window
    → IsRemembered r.first fates y after.going_on
    → after.joiner ≡ flow.joiner → AreCounts (answers ++ answer ∷ []) s.settled given flow.joiner after.counts
    → StandsFor check r after (events ++ event ∷ []) (answers ++ answer ∷ []) y given
stands-next check r flow after events answers y given event answer fates s drained changes window remembered joiner counts =
    let sound = drained-sound check r flow events answers y given s drained in
    let next = sound-changes r.first r.window y event answer s.fates fates sound changes in
    (stands check r after (events ++ event ∷ []) (answers ++ answer ∷ []) y given fates next.0 s.settled
    (after-append r.first r.window y events answers event answer s.fates fates s.after sound.expected changes)
    next.2.expected
    window
    remembered
    (record {
      size = s.below.size;
      each = λ i fate is. settled-stays r.first r.window y i event answer s.fates fates fate sound changes (s.below.each i fate is);
    })
    (subst (λ u. Joins check [] s.settled given u) (sym joiner) s.joined)
    (subst (λ u. AreCounts (answers ++ answer ∷ []) s.settled given u after.counts) (sym joiner) counts)).0

-- A flow to which nothing happened yet.
pub new-stands : (check : List ℕ → Bool) (r : FlowRecord) (flow : Flow) → IsInRange r → flow.window ≡ empty_window r.first r.window → IsLawful flow.window
    → flow.joiner ≡ [] → flow.counts ≡ no_counts → flow.going_on ≡ None → StandsFor check r flow [] [] 0 []
new-stands check r flow in_range window lawful joiner counts going_on =
    (stands check r flow [] [] 0 [] no_fates 0 [] (refl, refl)
    (record { open_itself = map.get-empty nat_cmp 0; settled = λ i below. absurd (omega arith) })
    (subst (IsWindowFrom r no_fates 0) (sym window) (window-new r in_range (subst IsLawful window lawful)))
    (subst (IsRemembered r.first no_fates 0) (sym going_on)
    (λ i from lost. some-none None (sym lost ∙ map.get-empty nat_cmp i)))
    (record { size = refl; each = λ i fate is. absurd (let within = slice_get_within [] i fate is in omega arith) })
    (refl, joiner)
    (subst (AreCounts [] [] [] flow.joiner) (sym counts) (counts-new flow.joiner joiner))).0
