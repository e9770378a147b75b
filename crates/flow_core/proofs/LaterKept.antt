-- Which indexes are lost: each has a later kept one, or a skip passed it.
use Rattle.std.proofs.Common.{◌≡◌, ℕ, ◌+◌, ◌⊎◌, inl, inr, Option, Some, None, List, [], ◌∷◌, ◌++◌, refl, ap, sym, subst, ◌∙◌, append_assoc}
use Rattle.std.proofs.lemmas.Bool.{cases_eq}
use Rattle.std.specs.Ordering.{nat_cmp}
use Rattle.std.specs.FinMap as map
use Rattle.docsis_wire.specs.declared.segment.Segment.{Segment}
use Rattle.reorder.specs.declared.verdict.Verdict.TheVariants.{Late, Beyond, Repeat, Kept}
use Rattle.reorder.specs.declared.verdict.Declared.TheVariants.{NextIsHere, NothingHeld, Lost}
use Rattle.reorder.proofs.Items.{get-insert_same, get-insert_other}
use Rattle.flow_core.specs.declared.event.Applied.{Applied}
use Rattle.flow_core.specs.declared.event.Applied.TheVariants.{Arrival, Decision, DecisionTo, DecisionSkip}
use Rattle.flow_core.specs.Fates.{Fates, no_fates, IsLost, HasLaterKept}
use Rattle.flow_core.specs.Events.{FlowEvent, arrives, gap, gap_to, skip_to, IsSkippedTo, Changes, Leads, IsAfter}
use Rattle.flow_core.specs.Closing.{HaveNoSkip, IsSkippedBy}
use Rattle.flow_core.proofs.Deciding.{IsDeclaredTo-decided, IsSkippedTo-decided}
use Rattle.flow_core.proofs.Outcome.{IsSound, expected-unique, sound-changes, sound-none, after-append, settled-stays}

-- What may be said of an index that an event loses, where x is the expected index: a skip loses it,
-- or it has a later kept one.
abbrev pub IsLosing : ℕ → ℕ → FlowEvent → Fates → ℕ → Type 0
IsLosing first x (arrives segment) fates i = HasLaterKept fates i
IsLosing first x gap fates i = HasLaterKept fates i
IsLosing first x (gap_to number) fates i = HasLaterKept fates i
IsLosing first x (skip_to number) fates i = IsSkippedTo first x number fates i

-- an index that is lost after an event was lost before, or the event loses it
pub lost-before : (first width x : ℕ) (event : FlowEvent) (answer : Applied) (fates after : Fates) → IsSound width fates x
    → Changes first width x event answer fates after → (i : ℕ) → IsLost after i → IsLost fates i ⊎ IsLosing first x event fates i
lost-before first width x (arrives came) (Arrival (Late back)) fates after sound changes i lost = inl (ap (λ (f : Fates). map.get f i) (sym changes.1) ∙ lost)
lost-before first width x (arrives came) (Arrival (Beyond back)) fates after sound changes i lost = inl (ap (λ (f : Fates). map.get f i) (sym changes.1) ∙ lost)
lost-before first width x (arrives came) (Arrival (Repeat back)) fates after sound changes i lost = inl (ap (λ (f : Fates). map.get f i) (sym changes.1) ∙ lost)
lost-before first width x (arrives came) (Arrival Kept) fates after sound ((j, ahead, to, free), keeps) i lost =
    let there : map.get (map.insert fates j (Some came)) i ≡ Some None = ap (λ (f : Fates). map.get f i) (sym (keeps j ahead)) ∙ lost in
    elim (cases_eq i j) [
      | inl same ↦ let here = ap (map.get (map.insert fates j (Some came))) same in let is = get-insert_same fates j (Some came) in absurd cc
      | inr differ ↦ inl (sym (get-insert_other fates j (Some came) i differ) ∙ there)
    ]
lost-before first width x (arrives came) (Decision declared) fates after sound changes i lost = absurd changes
lost-before first width x (arrives came) (DecisionTo declared) fates after sound changes i lost = absurd changes
lost-before first width x (arrives came) (DecisionSkip skipped) fates after sound changes i lost = absurd changes
lost-before first width x gap (Arrival verdict) fates after sound changes i lost = absurd changes
lost-before first width x gap (Decision NextIsHere) fates after sound changes i lost = absurd changes
lost-before first width x gap (Decision NothingHeld) fates after sound changes i lost = inl (ap (λ (f : Fates). map.get f i) (sym changes.1) ∙ lost)
lost-before first width x gap (Decision (Lost number)) fates after sound changes i lost =
    elim (cases_eq i x) [
      | inl same ↦ inr (subst (HasLaterKept fates) (sym same) changes.0)
      | inr differ ↦ inl (sym (get-insert_other fates x None i differ) ∙ ap (λ (f : Fates). map.get f i) (sym changes.2) ∙ lost)
    ]
lost-before first width x gap (DecisionTo declared) fates after sound changes i lost = absurd changes
lost-before first width x gap (DecisionSkip skipped) fates after sound changes i lost = absurd changes
lost-before first width x (gap_to number) (Arrival verdict) fates after sound changes i lost = absurd changes
lost-before first width x (gap_to number) (Decision declared) fates after sound changes i lost = absurd changes
lost-before first width x (gap_to number) (DecisionTo declared) fates after sound changes i lost =
    elim (IsDeclaredTo-decided first x number fates (x + width) i sound.kept_within) [
      | inl p ↦ inr p.later_kept
      | inr not_so ↦ inl (sym (changes.others i not_so) ∙ lost)
    ]
lost-before first width x (gap_to number) (DecisionSkip skipped) fates after sound changes i lost = absurd changes
lost-before first width x (skip_to number) (Arrival verdict) fates after sound changes i lost = absurd changes
lost-before first width x (skip_to number) (Decision declared) fates after sound changes i lost = absurd changes
lost-before first width x (skip_to number) (DecisionTo declared) fates after sound changes i lost = absurd changes
lost-before first width x (skip_to number) (DecisionSkip skipped) fates after sound changes i lost =
    elim (IsSkippedTo-decided first x number fates i) [
      | inl p ↦ inr p
      | inr not_so ↦ inl (sym (changes.others i not_so) ∙ lost)
    ]

-- each lost index has a later kept one, or one of all events skipped it
abbrev pub AreLostLawfully : ℕ → ℕ → List FlowEvent → Fates → Type 0
AreLostLawfully first width events fates = (i : ℕ) → IsLost fates i → HasLaterKept fates i ⊎ IsSkippedBy first width events i

-- an index that an event loses has a later kept one, or the event is a skip
losing-cases : (first x : ℕ) (event : FlowEvent) (fates : Fates) (i : ℕ) → IsLosing first x event fates i
    → HasLaterKept fates i ⊎ ((number : ℕ) × (event ≡ skip_to number) × IsSkippedTo first x number fates i)
losing-cases first x (arrives segment) fates i losing = inl losing
losing-cases first x gap fates i losing = inl losing
losing-cases first x (gap_to number) fates i losing = inl losing
losing-cases first x (skip_to number) fates i losing = inr (number, refl, losing)

-- so it is after one event more
lawful-changes : (first width x : ℕ) (all past events : List FlowEvent) (event : FlowEvent) (so_far : List Applied) (answer : Applied) (fates after : Fates)
    → all ≡ past ++ event ∷ events → IsAfter first width past so_far fates → IsSound width fates x → Changes first width x event answer fates after
    → AreLostLawfully first width all fates → AreLostLawfully first width all after
lawful-changes first width x all past events event so_far answer fates after e is sound changes lawful i lost =
    let still : HasLaterKept fates i → HasLaterKept after i =
    λ h. (h.0, h.1, (h.2.0, settled-stays first width x h.0 event answer fates after (Some h.2.0) sound changes h.2.1)) in
    elim (lost-before first width x event answer fates after sound changes i lost) [
      | inl before ↦ elim (lawful i before) [ inl later ↦ inl (still later) | inr skipped ↦ inr skipped ]
      | inr losing ↦ elim (losing-cases first x event fates i losing) [
        | inl later ↦ inl (still later)
        | inr (number, same, skipped) ↦
            inr record {
              before = past;
              behind = events;
              number = number;
              events_are = e ∙ ap (λ t. past ++ t ∷ events) same;
              answers = so_far;
              fates = fates;
              after = is;
              x = x;
              expected = sound.expected;
              skipped = skipped;
            }
      ]
    ]

-- and after all that follow
lawful-leads : (first width x : ℕ) (all past events : List FlowEvent) (so_far answers : List Applied) (fates after : Fates) → all ≡ past ++ events
    → IsAfter first width past so_far fates → IsSound width fates x → Leads first width fates events answers after
    → AreLostLawfully first width all fates → AreLostLawfully first width all after
lawful-leads first width x all past [] so_far answers fates after e is sound leads lawful = subst (AreLostLawfully first width all) (sym leads.1) lawful
lawful-leads first width x all past (event ∷ events) so_far answers fates after e is sound (x', answer, rest, between, expected, changes, leads, are) lawful =
    let same = expected-unique fates x' x expected sound.expected in
    let changed : Changes first width x event answer fates between = subst (λ k. Changes first width k event answer fates between) same changes in
    let next = sound-changes first width x event answer fates between sound changed in
    lawful-leads first width next.0 all (past ++ event ∷ []) events (so_far ++ answer ∷ []) rest between after (e ∙ sym (append_assoc past (event ∷ []) events))
    (after-append first width x past so_far event answer fates between is sound.expected changed) next.2 leads
    (lawful-changes first width x all past events event so_far answer fates between e is sound changed lawful)

-- so whatever is lost was declared with a later kept one, or skipped
pub lost-lawfully : (first width : ℕ) (events : List FlowEvent) (answers : List Applied) (fates : Fates)
    → IsAfter first width events answers fates → AreLostLawfully first width events fates
lost-lawfully first width events answers fates is =
    lawful-leads first width 0 events [] events [] answers no_fates fates refl (refl, refl) (sound-none width) is
    (λ i lost. let free = map.get-empty {X = Option Segment} nat_cmp i in absurd cc)

-- without a skip each has a later kept one
pub later-after : (first width : ℕ) (events : List FlowEvent) (answers : List Applied) (fates : Fates)
    → IsAfter first width events answers fates → HaveNoSkip events → (i : ℕ) → IsLost fates i → HasLaterKept fates i
later-after first width events answers fates is none i lost =
    elim (lost-lawfully first width events answers fates is i lost) [
      | inl later ↦ later
      | inr skipped ↦ absurd (none skipped.before skipped.behind skipped.number skipped.events_are)
    ]
