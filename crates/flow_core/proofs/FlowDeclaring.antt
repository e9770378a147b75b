-- Decisions that lose indexes, and what is remembered of them.
use Rattle.std.proofs.Common.{◌≡◌, ◌≢◌, ℕ, ◌+◌, ◌<◌, ◌≤◌, ◌↔◌, ◌⊎◌, inl, inr, ⊎_elim, Bool, IsTrue, Option, None, Some, is_some, List, [], ◌∷◌, ◌++◌, refl, sym, ap, subst, ◌∙◌, arith}
use Rattle.std.specs.Option.{option_flatten}
use Rattle.std.specs.FinMap as map
use Rattle.std.proofs.lemmas.Bool.{cases_eq, cases_lt}
use Rattle.docsis_wire.specs.declared.segment.ReadySegment.{ReadySegment}
use Rattle.reorder.specs.Number.{offset, number_ahead}
use Rattle.reorder.specs.View.{WindowView, offset_in, IsLawful, moved_on_by}
use Rattle.reorder.specs.Verdicts.{IsDeclared, after_declare}
use Rattle.reorder.specs.declared.verdict.Declared.{Declared}
use Rattle.reorder.specs.declared.verdict.Declared.TheVariants.{NextIsHere, NothingHeld, Lost}
use Rattle.reorder.proofs.Items.{get-insert_same, get-insert_other}
use Rattle.flow_records.specs.declared.record.FlowRecord.{FlowRecord}
use Rattle.flow_core.specs.declared.flow.Flow.{Flow}
use Rattle.flow_core.specs.declared.up_to.UpTo.{UpTo}
use Rattle.flow_core.specs.declared.up_to.UpTo.TheVariants.{Declare, Skip}
use Rattle.flow_core.specs.declared.counts.FlowCounts.{FlowCounts}
use Rattle.flow_core.specs.declared.event.Applied.{Applied}
use Rattle.flow_core.specs.declared.event.Applied.TheVariants.{Decision}
use Rattle.flow_core.specs.Fates.{Fates, number_of, kept_at, IsKept, IsLost, HasLaterKept}
use Rattle.flow_core.specs.Events.{FlowEvent, gap, IsAhead, LosesJust, IsSkippedTo, Changes}
use Rattle.flow_core.specs.Counts.{AreCounts}
use Rattle.flow_core.specs.Inside.Losses.{after_losses, after_passing, event_to, answer_to, count_to}
use Rattle.flow_core.specs.Stands.{IsWindowFrom, number_to, Reaches, IsRemembered, StandsFor, IsDrained, AreLost, TakesEvent}
use Rattle.flow_core.proofs.Outcome.{IsSound, sound-changes, after-append, settled-stays, loses-just}
use Rattle.flow_core.proofs.Deciding.{Decided, both, IsSkippedTo-decided, skipped-declared, declared-skipped, open_or_settled}
use Rattle.flow_core.proofs.IndexNumbers.{index-offset, ahead-index, ahead-one}
use Rattle.flow_core.proofs.Windows.{none-kept, window-same}
use Rattle.flow_core.proofs.FlowCounting.{answered, counts-answered}
use Rattle.flow_core.proofs.Standing.{stands, drained-sound, open-kept, kept-not-lost, settled-cases}
use Rattle.flow_core.proofs.Losing.{HasComeTo, come-same, losses-pass, losses-window, losses-memory}
use Rattle.flow_core.proofs.Stopping.{CanLose, CanLose-decided, number-in_range, Reaches-decided, Reaches-still, Stops, StopsEverywhere, nothing-kept, later-held, can-reach, reach-can, passed-reached, count-to, passed-free, reached-end}

-- The losses of a decision up to an index: from y on, exactly those before it are lost that were
-- not kept and that the decision reaches.
abbrev pub AreLostTo : UpTo → Fates → ℕ → ℕ → Type 0
AreLostTo u fates y end = (i : ℕ) → y ≤ i → IsLost fates i ↔ ((i < end) × ¬ (IsKept fates i) × Reaches u fates i)

-- What is left to do of a decision, where the flow may have reached its number: nothing, or the
-- index of the number is y or after it.
abbrev pub IsToGoOn : ℕ → Fates → ℕ → Option UpTo → Type 0
IsToGoOn first fates y None = (i : ℕ) → y ≤ i → ¬ (IsLost fates i)
IsToGoOn first fates y (Some u) =
    (end : ℕ) × (y ≤ end) × (end < y + 4096) × (number_of first end ≡ number_to u) × AreLostTo u fates y end

module _ (check : List ℕ → Bool) (r : FlowRecord) (fates : Fates) (answers : List Applied) (y : ℕ) (given : List (List ℕ)) (flow : Flow)
    (come : HasComeTo check r fates answers y given flow) (u : UpTo) (end count : ℕ) (numbered : number_of r.first end ≡ number_to u)
    (from : y ≤ end) (to : end < y + 4096) (lost_to : AreLostTo u fates y end) (stops : Stops u flow.window count) where
  short : y + count ≤ end
  short = count-to r fates y flow.window come.window u end count numbered from to stops

  -- the indexes that are passed are lost
  pub passed-lost : AreLost fates y (y + count)
  passed-lost i after before =
      let upto = short in
      (lost_to i after).1 (
        omega arith,
        passed-free r fates y flow.window come.window u end count numbered from to stops i after before,
        passed-reached r fates y flow.window come.window u count i stops after before,
      )

  -- so the flow comes further
  pub comes-further : IsLawful (moved_on_by flow.window count) → HasComeTo check r fates answers (y + count) given (after_passing count flow)
  comes-further lawful =
      let upto = short in
      losses-pass check r fates answers y given flow count come (omega arith) passed-lost lawful

  end-reached : number_of r.first (y + count) ≡ number_to u → y + count ≡ end
  end-reached reached = let upto = short in let same = reached ∙ sym numbered in omega arith

  -- where nothing is held, or the number is reached, nothing more is lost
  pub forgotten : ((map.len flow.window.held ≡ 0) ⊎ (number_of r.first (y + count) ≡ number_to u)) → (i : ℕ) → y + count ≤ i → ¬ (IsLost fates i)
  forgotten (inl empty) i after lost =
      let this = (lost_to i (omega arith)).0 lost in
      let before = this.0 in
      ⊎_elim
      (λ (same : y + count ≡ end). omega arith)
      (λ kept. nothing-kept r fates y flow.window come.window empty (y + count) (omega arith) kept)
      (reached-end r fates y flow.window come.window u end count numbered from to stops (reach-can r fates y flow.window come.window u i (omega arith) this.2))
  forgotten (inr reached) i after lost =
      let before = ((lost_to i (omega arith)).0 lost).0 in
      let at = end-reached reached in
      omega arith

  -- otherwise a kept segment is next, and the decision is remembered
  pub still-remembered : CanLose u flow.window → number_of r.first (y + count) ≢ number_to u → IsRemembered r.first fates (y + count) (Some u)
  still-remembered can differ =
      let upto = short in (
        end,
        record { from = upto; to = omega arith; numbered = numbered },
        ⊎_elim
            (λ (same : y + count ≡ end). absurd (differ (ap (number_of r.first) same ∙ numbered)))
            (λ (apart : y + count ≢ end). omega arith)
            (cases_eq (y + count) end),
        ⊎_elim
            (λ (same : y + count ≡ end). absurd (differ (ap (number_of r.first) same ∙ numbered)))
            (λ kept. kept)
            (reached-end r fates y flow.window come.window u end count numbered from to stops can),
        λ i after. lost_to i (omega arith),
      )

-- a decision changes no count of arrivals
module _ (check : List ℕ → Bool) (r : FlowRecord) (flow : Flow) (events : List FlowEvent) (answers : List Applied) (y : ℕ) (given : List (List ℕ))
    (s : StandsFor check r flow events answers y given) (drained : IsDrained flow) (event : FlowEvent) (answer : Applied) (fates : Fates)
    (changes : Changes r.first r.window y event answer s.fates fates) where
  sound : IsSound r.window s.fates y
  sound = drained-sound check r flow events answers y given s drained

  -- with the event the flow has come as far as before
  pub still-come : IsWindowFrom r fates y flow.window → answered flow.counts answer ≡ flow.counts → HasComeTo check r fates (answers ++ answer ∷ []) y given flow
  still-come window same =
      record {
        window = window;
        settled = s.settled;
        below = record {
          size = s.below.size;
          each = λ i fate is. settled-stays r.first r.window y i event answer s.fates fates fate sound changes (s.below.each i fate is);
        };
        joined = s.joined;
        counts = subst (λ k. AreCounts (answers ++ answer ∷ []) s.settled given flow.joiner k) same (counts-answered answers answer s.settled given flow.joiner flow.counts s.counts);
      }

  -- and a flow that has come somewhere with it stands for it
  pub event-stands : (after : Flow) (z : ℕ) → HasComeTo check r fates (answers ++ answer ∷ []) z given after
      → IsRemembered r.first fates z after.going_on
      → (stands : StandsFor check r after (events ++ event ∷ []) (answers ++ answer ∷ []) z given) × (stands.fates ≡ fates)
  event-stands after z come remembered =
      let next = sound-changes r.first r.window y event answer s.fates fates sound changes in
      stands check r after (events ++ event ∷ []) (answers ++ answer ∷ []) z given fates next.0 come.settled
      (after-append r.first r.window y events answers event answer s.fates fates s.after sound.expected changes)
      next.2.expected
      come.window
      remembered
      come.below
      come.joined
      come.counts

-- the expected index of a drained flow was not kept
module _ (check : List ℕ → Bool) (r : FlowRecord) (flow : Flow) (events : List FlowEvent) (answers : List Applied) (y : ℕ) (given : List (List ℕ))
    (s : StandsFor check r flow events answers y given) (drained : IsDrained flow) where
  not-kept-yet : ¬ (IsKept s.fates y)
  not-kept-yet kept = open-kept s.fates y (drained-sound check r flow events answers y given s drained).expected.open_itself kept

  -- a drained flow remembers nothing: no index is lost from y on, in whatever fates with the same
  -- losses from y on
  none-remembered : (going_on : Option UpTo) → IsRemembered r.first s.fates y going_on → going_on ≡ None
  none-remembered None remembered = refl
  none-remembered (Some u) remembered = absurd (not-kept-yet remembered.3)

  none-lost : (i : ℕ) → y ≤ i → ¬ (IsLost s.fates i)
  none-lost i from lost = let below = (drained-sound check r flow events answers y given s drained).lost_below i lost in omega arith

-- where nothing was lost anew, and nothing is remembered
nothing-remembered : (first y : ℕ) (fates : Fates) (remembered : Option UpTo) → remembered ≡ None → ((i : ℕ) → y ≤ i → ¬ (IsLost fates i)) → IsRemembered first fates y remembered
nothing-remembered first y fates remembered none lost = subst (IsRemembered first fates y) (sym none) lost

-- A gap that is answered by a loss.
pub gap-lost : (flow after : Flow) (number : ℕ) → IsDrained flow → IsDeclared flow.window (Lost number) → IsLawful (moved_on_by flow.window 1)
    → after ≡ after_losses 1 (record flow { window = moved_on_by flow.window 1 })
    → TakesEvent flow gap (Decision (Lost number)) after
gap-lost flow after number drained is lawful made check r events answers y given s =
    let free = not-kept-yet check r flow events answers y given s drained in
    let later = later-held r s.fates y flow.window s.window free is.1 in
    let fates : Fates = map.insert s.fates y None in
    let changes : Changes r.first r.window y gap (Decision (Lost number)) s.fates fates = (later, is.2 ∙ s.window.number, refl) in
    let same : (i : ℕ) → kept_at fates i ≡ kept_at s.fates i =
    λ i. ⊎_elim
    (λ (here : i ≡ y). ap (kept_at fates) here ∙ ap option_flatten (get-insert_same s.fates y None) ∙ sym (ap (kept_at s.fates) here ∙ none-kept s.fates y free))
    (λ (there : i ≢ y). ap option_flatten (get-insert_other s.fates y None i there))
    (cases_eq i y) in
    let come = still-come check r flow events answers y given s drained gap (Decision (Lost number)) fates changes (window-same r s.fates y flow.window s.window fates same) refl in
    let lost : AreLost fates y (y + 1) = λ i from to. let here : i ≡ y = omega arith in ap (map.get fates) here ∙ get-insert_same s.fates y None in
    let further = losses-pass check r fates (answers ++ Decision (Lost number) ∷ []) y given flow 1 come (omega arith) lost lawful in
    let none : (i : ℕ) → y + 1 ≤ i → ¬ (IsLost fates i) =
    λ i from is_lost. none-lost check r flow events answers y given s drained i (omega arith) (sym (get-insert_other s.fates y None i (λ (here : i ≡ y). omega arith)) ∙ is_lost) in
    let whole = event-stands check r flow events answers y given s drained gap (Decision (Lost number)) fates changes after (y + 1)
    (subst (λ one. HasComeTo check r fates (answers ++ Decision (Lost number) ∷ []) (y + 1) given one) (sym made) further)
    (nothing-remembered r.first (y + 1) fates _ (ap (λ (one : Flow). one.going_on) made ∙ none-remembered check r flow events answers y given s drained _ s.remembered) none) in
    (y + 1, whole.0, subst (λ f. AreLost f y (y + 1)) (sym whole.1) lost)

-- A gap that finds nothing held.
pub gap-none : (flow after : Flow) → IsDrained flow → IsDeclared flow.window NothingHeld → after ≡ flow
    → TakesEvent flow gap (Decision NothingHeld) after
gap-none flow after drained is made check r events answers y given s =
    let nothing : ¬ (HasLaterKept s.fates y) = λ later. nothing-kept r s.fates y flow.window s.window is later.0 (let far = later.1 in omega arith) later.2 in
    let changes : Changes r.first r.window y gap (Decision NothingHeld) s.fates s.fates = (nothing, refl) in
    let come = still-come check r flow events answers y given s drained gap (Decision NothingHeld) s.fates changes s.window refl in
    let whole = event-stands check r flow events answers y given s drained gap (Decision NothingHeld) s.fates changes after y
    (subst (λ one. HasComeTo check r s.fates (answers ++ Decision NothingHeld ∷ []) y given one) (sym made) come)
    (subst (λ (one : Flow). IsRemembered r.first s.fates y one.going_on) (sym made) s.remembered) in
    (y, whole.0, λ i from to. absurd (omega arith))

-- A gap that is not answered by a loss.
pub gap-unlost : (flow after : Flow) (declared : Declared) (window : WindowView ReadySegment) → IsDrained flow → IsDeclared flow.window declared
    → ((number : ℕ) → declared ≡ Lost number → ⊥) → window ≡ after_declare flow.window declared → after ≡ record flow { window = window }
    → TakesEvent flow gap (Decision declared) after
gap-unlost flow after NextIsHere window drained is unlost moved made = absurd (let nothing = ap is_some drained in cc)
gap-unlost flow after NothingHeld window drained is unlost moved made = gap-none flow after drained is (made ∙ ap (λ w. record flow { window = w }) moved)
gap-unlost flow after (Lost number) window drained is unlost moved made = absurd (unlost number refl)

-- The indexes that a decision up to a number loses, where x is the expected index.
abbrev pub IsLostBy : UpTo → ℕ → ℕ → Fates → ℕ → Type 0
IsLostBy u first x fates i = IsSkippedTo first x (number_to u) fates i × Reaches u fates i

-- to lose just these is what the event changes
changes-by : (u : UpTo) (first width x : ℕ) (any : Bool) (fates after : Fates) → LosesJust (IsLostBy u first x fates) any fates after
    → Changes first width x (event_to u) (answer_to u any) fates after
changes-by (Declare sequence) first width x any fates after loses =
    record {
      lost = λ i p. loses.lost i (declared-skipped first x sequence.number fates i p, p.later_kept);
      others = λ i not_so. loses.others i (λ p. not_so (skipped-declared first x sequence.number fates i p.0 p.1));
      answer = (
        λ so. (let one = loses.answer.0 so in (one.0, skipped-declared first x sequence.number fates one.0 one.1.0 one.1.1)),
        λ one. loses.answer.1 (one.0, (declared-skipped first x sequence.number fates one.0 one.1, one.1.later_kept)),
      );
    }
changes-by (Skip sequence) first width x any fates after loses =
    record {
      lost = λ i p. loses.lost i (p, tt);
      others = λ i not_so. loses.others i (λ p. not_so p.0);
      answer = (λ so. (let one = loses.answer.0 so in (one.0, one.1.0)), λ one. loses.answer.1 (one.0, (one.1, tt)));
    }

-- no arrival is counted of it
answered-to : (u : UpTo) (any : Bool) (counts : FlowCounts) → answered counts (answer_to u any) ≡ counts
answered-to (Declare sequence) any counts = refl
answered-to (Skip sequence) any counts = refl

-- What a flow remembers of a decision that passed so many numbers: the decision, if its number is
-- not reached, and otherwise what it did.
abbrev pub IsMemory : WindowView ReadySegment → UpTo → ℕ → Option UpTo → Option UpTo → Type 0
IsMemory w u count before after =
    ((0 < count) × (number_ahead w.expected count ≢ number_to u) × (after ≡ Some u))
    ⊎ (((count ≡ 0) ⊎ (number_ahead w.expected count ≡ number_to u)) × (after ≡ before))

-- A decision up to a number of a drained flow.
module _ (check : List ℕ → Bool) (r : FlowRecord) (flow : Flow) (events : List FlowEvent) (answers : List Applied) (y : ℕ) (given : List (List ℕ))
    (s : StandsFor check r flow events answers y given) (drained : IsDrained flow) (u : UpTo) (count : ℕ)
    (stops : Stops u flow.window count) (lawful : IsLawful (moved_on_by flow.window count)) (any : Bool) (is : IsTrue any ↔ (0 < count))
  where
    whole-sound : IsSound r.window s.fates y
    whole-sound = drained-sound check r flow events answers y given s drained

    free : ¬ (IsKept s.fates y)
    free = not-kept-yet check r flow events answers y given s drained

    -- the indexes that are to be lost
    abbrev ToLose : ℕ → Type 0
    ToLose i = IsLostBy u r.first y s.fates i

    decided : (i : ℕ) → Decided (ToLose i)
    decided i =
        both (IsSkippedTo r.first y (number_to u) s.fates i) (Reaches u s.fates i) (IsSkippedTo-decided r.first y (number_to u) s.fates i)
        (Reaches-decided u s.fates (y + r.window) i whole-sound.kept_within)

    -- where there is one, some number is passed
    lost-count : (i : ℕ) → ToLose i → 0 < count
    lost-count i p =
        let from = p.0.from in
        let before = p.0.before in
        ⊎_elim
        (λ (some : 0 < count). some)
        (λ (none : count ≤ 0).
        ⊎_elim
        (λ (reached : y + count ≡ p.0.end). absurd (omega arith))
        (λ kept. absurd (free (subst (IsKept s.fates) (omega arith) kept)))
        (reached-end r s.fates y flow.window s.window u p.0.end count p.0.ahead.numbered (omega arith) p.0.ahead.to stops
        (reach-can r s.fates y flow.window s.window u i from p.1)))
        (cases_lt 0 count)

    -- nothing is passed: nothing changes
    none-changes : count ≡ 0 → LosesJust ToLose any s.fates s.fates
    none-changes none =
        record {
          lost = λ i p. absurd (let some = lost-count i p in omega arith);
          others = λ i _. refl;
          answer = (λ so. absurd (let some = is.0 so in omega arith), λ one. absurd (let some = lost-count one.0 one.1 in omega arith));
        }

    -- something is passed: the number lies ahead, and the decision can lose
    some-ahead : 0 < count → (0 < offset_in flow.window (number_to u)) × (offset_in flow.window (number_to u) < 4096) × CanLose u flow.window
    some-ahead some =
        let n : ℕ = offset_in flow.window (number_to u) in (
          ⊎_elim (λ (holds : 0 < n). holds) (λ (fails : n ≤ 0). absurd (let none = stops.none (inl (omega arith)) in omega arith)) (cases_lt 0 n),
          ⊎_elim (λ (holds : n < 4096). holds) (λ (fails : 4096 ≤ n). absurd (let none = stops.none (inr fails) in omega arith)) (cases_lt n 4096),
          ⊎_elim (λ holds. holds) (λ fails. absurd (let none = stops.none_held fails in omega arith)) (CanLose-decided u flow.window),
        )

    -- the index of the number
    abbrev end_of : ℕ
    end_of = y + offset_in flow.window (number_to u)

    end-numbered : number_of r.first end_of ≡ number_to u
    end-numbered = ap (λ e. number_of r.first (y + offset e (number_to u))) s.window.number ∙ index-offset r.first y (number_to u) (number-in_range u)

    end-ahead : 0 < count → IsAhead r.first y (number_to u) end_of
    end-ahead some = let near = some-ahead some in let to = near.1 in record { from = omega arith; to = omega arith; numbered = end-numbered }

    -- the expected index is lost
    first-lost : 0 < count → ToLose y
    first-lost some =
        let near = some-ahead some in
        let from = near.0 in (
          record {
            end = end_of;
            ahead = end-ahead some;
            from = omega arith;
            before = omega arith;
            open_itself = whole-sound.expected.open_itself;
          },
          can-reach r s.fates y flow.window s.window u free near.2,
        )

    module _ (some : 0 < count) (fates : Fates) (b : Bool) (loses : LosesJust ToLose b s.fates fates) where
      some-changes : LosesJust ToLose any s.fates fates
      some-changes =
          record {
            lost = loses.lost;
            others = loses.others;
            answer = (λ so. (y, first-lost some), λ one. is.1 some);
          }

      -- an index that was kept is kept, and no other
      still-kept : (i : ℕ) → IsKept s.fates i → IsKept fates i
      still-kept i kept = (kept.0, loses.others i (λ p. open-kept s.fates i p.0.open_itself kept) ∙ kept.1)

      kept-before : (i : ℕ) → IsKept fates i → IsKept s.fates i
      kept-before i kept =
          ⊎_elim
          (λ p. absurd (kept-not-lost kept.0 (sym kept.1 ∙ loses.lost i p)))
          (λ not_so. (kept.0, sym (loses.others i not_so) ∙ kept.1))
          (decided i)

      same-kept : (i : ℕ) → kept_at fates i ≡ kept_at s.fates i
      same-kept i =
          ⊎_elim
          (λ p. ap option_flatten (loses.lost i p) ∙ sym (ap option_flatten p.0.open_itself))
          (λ not_so. ap option_flatten (loses.others i not_so))
          (decided i)

      lost-to : AreLostTo u fates y end_of
      lost-to i from = (
        λ lost. ⊎_elim
            (λ p. (
              let same = ahead-one r.first y (number_to u) p.0.end end_of p.0.ahead (end-ahead some) in let before = p.0.before in omega arith,
              λ kept. kept-not-lost kept.0 (sym kept.1 ∙ lost),
              Reaches-still u s.fates fates i still-kept p.1,
            ))
            (λ not_so. absurd (none-lost check r flow events answers y given s drained i from (sym (loses.others i not_so) ∙ lost)))
            (decided i),
        λ this. loses.lost i (
          record {
            end = end_of;
            ahead = end-ahead some;
            from = from;
            before = this.0;
            open_itself = ⊎_elim
                (λ open_is. open_is)
                (λ settled. ⊎_elim
                (λ kept. absurd (this.1 (still-kept i kept)))
                (λ lost. absurd (none-lost check r flow events answers y given s drained i from lost))
                (settled-cases s.fates i (ap is_some settled.1)))
                (open_or_settled s.fates i);
          },
          Reaches-still u fates s.fates i kept-before this.2,
        ),
      )

    -- where it is remembered what is left to lose
    remembered-at : (fates : Fates) (z : ℕ) (before after : Option UpTo) → IsRemembered r.first s.fates y before → z ≡ y + count
        → ((count ≡ 0) ⊎ (number_ahead flow.window.expected count ≡ number_to u) → (i : ℕ) → z ≤ i → ¬ (IsLost fates i))
        → (0 < count → number_ahead flow.window.expected count ≢ number_to u → IsRemembered r.first fates z (Some u))
        → IsMemory flow.window u count before after → IsRemembered r.first fates z after
    remembered-at fates z before after remembered at none some (inl memory) =
        subst (IsRemembered r.first fates z) (sym memory.2) (some memory.0 memory.1)
    remembered-at fates z before after remembered at none some (inr memory) =
        nothing-remembered r.first z fates after (memory.1 ∙ none-remembered check r flow events answers y given s drained before remembered) (none memory.0)

    -- The flow takes the decision.
    module _ (after : Flow) (window : after.window ≡ moved_on_by flow.window count) (joiner : after.joiner ≡ (after_passing count flow).joiner)
        (counts : after.counts ≡ (after_passing count flow).counts) (memory : IsMemory flow.window u count flow.going_on after.going_on)
      where
        Taken : Type 0
        Taken = (z : ℕ) × (stands : StandsFor check r after (events ++ event_to u ∷ []) (answers ++ answer_to u any ∷ []) z given) × AreLost stands.fates y z

        further : (fates : Fates) → HasComeTo check r fates (answers ++ answer_to u any ∷ []) (y + count) given (after_passing count flow)
            → HasComeTo check r fates (answers ++ answer_to u any ∷ []) (y + count) given after
        further fates come =
            come-same check r fates (answers ++ answer_to u any ∷ []) (y + count) given (after_passing count flow) after come
            (window ∙ sym (losses-window count (record flow { window = moved_on_by flow.window count }))) joiner counts

        taken-none : count ≡ 0 → Taken
        unfolding Taken
        taken-none none =
            let changes = changes-by u r.first r.window y any s.fates s.fates (none-changes none) in
            let come = still-come check r flow events answers y given s drained (event_to u) (answer_to u any) s.fates changes s.window (answered-to u any flow.counts) in
            let past = losses-pass check r s.fates (answers ++ answer_to u any ∷ []) y given flow count come (omega arith) (λ i from to. absurd (omega arith)) lawful in
            let whole = event-stands check r flow events answers y given s drained (event_to u) (answer_to u any) s.fates changes after (y + count) (further s.fates past)
            (remembered-at s.fates (y + count) _ _ s.remembered refl
            (λ _ i from. none-lost check r flow events answers y given s drained i (omega arith))
            (λ some. absurd (omega arith))
            memory) in
            (y + count, whole.0, λ i from to. absurd (omega arith))

        taken-some : 0 < count → Taken
        unfolding Taken
        taken-some some =
            let made = loses-just y ToLose s.fates decided (λ i p. let to = p.0.ahead.to in let before = p.0.before in omega arith) in
            let fates = made.0 in
            let changes = changes-by u r.first r.window y any s.fates fates (some-changes some fates made.1 made.2) in
            let come = still-come check r flow events answers y given s drained (event_to u) (answer_to u any) fates changes
            (window-same r s.fates y flow.window s.window fates (same-kept some fates made.1 made.2)) (answered-to u any flow.counts) in
            let near = some-ahead some in
            let to = near.1 in
            let lost = lost-to some fates made.1 made.2 in
            let passed = passed-lost check r fates (answers ++ answer_to u any ∷ []) y given flow come u end_of count end-numbered (omega arith) (omega arith) lost stops in
            let past = comes-further check r fates (answers ++ answer_to u any ∷ []) y given flow come u end_of count end-numbered (omega arith) (omega arith) lost stops lawful in
            let expected : number_ahead flow.window.expected count ≡ number_of r.first (y + count) = ap (λ e. number_ahead e count) s.window.number ∙ ahead-index r.first y count in
            let whole = event-stands check r flow events answers y given s drained (event_to u) (answer_to u any) fates changes after (y + count) (further fates past)
            (remembered-at fates (y + count) _ _ s.remembered refl
            (λ done. forgotten check r fates (answers ++ answer_to u any ∷ []) y given flow come u end_of count end-numbered (omega arith) (omega arith) lost stops
            (⊎_elim (λ (none : count ≡ 0). absurd (omega arith)) (λ reached. inr (sym expected ∙ reached)) done))
            (λ _ differ. still-remembered check r fates (answers ++ answer_to u any ∷ []) y given flow come u end_of count end-numbered (omega arith) (omega arith) lost stops near.2
            (λ same. differ (expected ∙ same)))
            memory) in
            (y + count, whole.0, subst (λ f. AreLost f y (y + count)) (sym whole.1) passed)

        pub decision-taken : (z : ℕ) × (stands : StandsFor check r after (events ++ event_to u ∷ []) (answers ++ answer_to u any ∷ []) z given) × AreLost stands.fates y z
        unfolding Taken
        decision-taken = ⊎_elim taken-some (λ (none : count ≤ 0). taken-none (omega arith)) (cases_lt 0 count)

-- What a flow makes of its memory after it passed so many numbers by a decision.
abbrev pub Remembers : UpTo → Flow → ℕ → Flow → Type 0
Remembers u passed count after =
    ((0 < count) × (passed.window.expected ≢ number_to u) × (after ≡ record passed { going_on = Some u }))
    ⊎ (((count ≡ 0) ⊎ (passed.window.expected ≡ number_to u)) × (after ≡ passed))

passed-window : (flow : Flow) (count : ℕ) → (after_passing count flow).window ≡ moved_on_by flow.window count
passed-window flow count = losses-window count (record flow { window = moved_on_by flow.window count })

passed-memory : (flow : Flow) (count : ℕ) → (after_passing count flow).going_on ≡ flow.going_on
passed-memory flow count = losses-memory count (record flow { window = moved_on_by flow.window count })

-- what it then remembers
memory-of : (u : UpTo) (flow passed after : Flow) (count : ℕ) → passed ≡ after_passing count flow → Remembers u passed count after
    → IsMemory flow.window u count flow.going_on after.going_on
memory-of u flow passed after count is (inl (some, differ, made)) =
    inl (
      some,
      λ same. differ (ap (λ (one : Flow). one.window.expected) is ∙ ap (λ (w : WindowView ReadySegment). w.expected) (passed-window flow count) ∙ same),
      ap (λ (one : Flow). one.going_on) made,
    )
memory-of u flow passed after count is (inr (done, made)) =
    inr (
      ⊎_elim
          (λ (none : count ≡ 0). inl none)
          (λ reached. inr (sym (ap (λ (w : WindowView ReadySegment). w.expected) (passed-window flow count)) ∙ sym (ap (λ (one : Flow). one.window.expected) is) ∙ reached))
          done,
      ap (λ (one : Flow). one.going_on) (made ∙ is) ∙ passed-memory flow count,
    )

-- only the memory differs
memory-window : (u : UpTo) (passed after : Flow) (count : ℕ) → Remembers u passed count after → after.window ≡ passed.window
memory-window u passed after count (inl (_, _, made)) = ap (λ (one : Flow). one.window) made
memory-window u passed after count (inr (_, made)) = ap (λ (one : Flow). one.window) made

memory-joiner : (u : UpTo) (passed after : Flow) (count : ℕ) → Remembers u passed count after → after.joiner ≡ passed.joiner
memory-joiner u passed after count (inl (_, _, made)) = ap (λ (one : Flow). one.joiner) made
memory-joiner u passed after count (inr (_, made)) = ap (λ (one : Flow). one.joiner) made

memory-counts : (u : UpTo) (passed after : Flow) (count : ℕ) → Remembers u passed count after → after.counts ≡ passed.counts
memory-counts u passed after count (inl (_, _, made)) = ap (λ (one : Flow). one.counts) made
memory-counts u passed after count (inr (_, made)) = ap (λ (one : Flow). one.counts) made

-- The flow takes a decision up to a number.
pub decision-event : (u : UpTo) (flow passed after : Flow) (count : ℕ) (any : Bool) → StopsEverywhere → IsDrained flow
    → count ≡ count_to flow.window u → passed ≡ after_passing (count_to flow.window u) flow → IsLawful passed.window
    → Remembers u passed count after → IsTrue any ↔ (0 < count)
    → TakesEvent flow (event_to u) (answer_to u any) after
decision-event u flow passed after count any law drained is made lawful memory says check r events answers y given s =
    let passes : passed ≡ after_passing count flow = made ∙ ap (λ n. after_passing n flow) (sym is) in
    let stops : Stops u flow.window count = subst (Stops u flow.window) (sym is) (law u flow.window s.window.lawful) in
    let moved : passed.window ≡ moved_on_by flow.window count = ap (λ (one : Flow). one.window) passes ∙ passed-window flow count in
    decision-taken check r flow events answers y given s drained u count stops (subst IsLawful moved lawful) any says after
    (memory-window u passed after count memory ∙ moved)
    (memory-joiner u passed after count memory ∙ ap (λ (one : Flow). one.joiner) passes)
    (memory-counts u passed after count memory ∙ ap (λ (one : Flow). one.counts) passes)
    (memory-of u flow passed after count passes memory)
