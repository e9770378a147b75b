-- Every list of events has one outcome.
use Rattle.std.proofs.Common.{◌≡◌, ℕ, ◌+◌, inl, inr, Bool, true, false, IsTrue, Some, None, List, [], ◌∷◌, refl, ap, sym, subst, ◌∙◌, arith}
use Rattle.std.proofs.lemmas.Bool.{cases_lt}
use Rattle.std.specs.Cmp.{nat_cmp_total}
use Rattle.std.specs.FinMap.{nat_cmp-IsAntisymmetric}
use Rattle.std.specs.FinMap as map
use Rattle.docsis_wire.specs.declared.segment.Segment.{Segment}
use Rattle.reorder.specs.declared.verdict.Verdict.{Verdict}
use Rattle.reorder.specs.declared.verdict.Verdict.TheVariants.{Late, Beyond, Repeat, Kept}
use Rattle.reorder.specs.declared.verdict.Declared.{Declared}
use Rattle.reorder.specs.declared.verdict.Declared.TheVariants.{NextIsHere, NothingHeld, Lost}
use Rattle.flow_core.specs.declared.event.Applied.{Applied}
use Rattle.flow_core.specs.declared.event.Applied.TheVariants.{Arrival, Decision, DecisionTo, DecisionSkip}
use Rattle.flow_core.specs.Fates.{Fates, no_fates, number_of, IsKept, IsExpected}
use Rattle.flow_core.specs.Events.{FlowEvent, arrives, gap, gap_to, skip_to, IsVerdictOn, Keeps, Declares, LosesJust, IsDeclaredTo, IsSkippedTo, Changes, Leads, IsAfter}
use Rattle.flow_core.proofs.Deciding.{Decided, IsKept-decided, HasLaterKept-decided, IsAhead-once, ahead_or_behind, IsDeclaredTo-decided, IsSkippedTo-decided}
use Rattle.flow_core.proofs.Outcome.{IsSound, expected-unique, sound-changes, sound-none, declared-to, skipped-to}

-- a segment that arrives is answered
verdict-exists : (first width x : ℕ) (fates : Fates) (segment : Segment)
    → (verdict : Verdict Segment) × (after : Fates) × IsVerdictOn first width fates x segment verdict × Keeps first x segment verdict fates after
verdict-exists first width x fates segment =
    elim (ahead_or_behind first x segment.head.sequence) [
      | inr behind ↦ (Late segment, fates, (behind, refl), refl)
      | inl (i, ahead) ↦ elim (cases_lt i (x + width)) [
        | inr beyond ↦ (Beyond segment, fates, (i, ahead, beyond, refl), refl)
        | inl within ↦ elim (IsKept-decided fates i) [
          | inl kept ↦ (Repeat segment, fates, (i, ahead, within, kept, refl), refl)
          | inr free ↦ (
            Kept,
            map.insert fates i (Some segment),
            (i, ahead, within, free),
            λ j other. ap (λ k. map.insert fates k (Some segment)) (IsAhead-once first x segment.head.sequence i j ahead other),
          )
        ]
      ]
    ]

-- so is each event
changes-exists : (first width x : ℕ) (event : FlowEvent) (fates : Fates) → IsSound width fates x
    → (answer : Applied) × (after : Fates) × Changes first width x event answer fates after
changes-exists first width x (arrives segment) fates sound =
    let found = verdict-exists first width x fates segment in
    (Arrival found.0, found.1, (found.2, found.3))
changes-exists first width x gap fates sound =
    elim (HasLaterKept-decided fates (x + width) x sound.kept_within) [
      | inl later_kept ↦ (Decision (Lost (number_of first x)), map.insert fates x None, (later_kept, refl, refl))
      | inr none ↦ (Decision NothingHeld, fates, (none, refl))
    ]
changes-exists first width x (gap_to number) fates sound =
    let found = declared-to first width x number fates sound in
    (DecisionTo found.1, found.0, found.2)
changes-exists first width x (skip_to number) fates sound =
    let found = skipped-to first x number fates in
    (DecisionSkip found.1, found.0, found.2)

-- and events one after another
leads-exists : (first width x : ℕ) (events : List FlowEvent) (fates : Fates) → IsSound width fates x
    → (answers : List Applied) × (after : Fates) × (y : ℕ) × Leads first width fates events answers after × IsExpected after y
leads-exists first width x [] fates sound = ([], fates, x, (refl, refl), sound.expected)
leads-exists first width x (event ∷ events) fates sound =
    let one = changes-exists first width x event fates sound in
    let next = sound-changes first width x event one.0 fates one.1 sound one.2 in
    let rest = leads-exists first width next.0 events one.1 next.2 in
    (one.0 ∷ rest.0, rest.1, rest.2, (x, one.0, rest.0, one.1, sound.expected, one.2, rest.3, refl), rest.4)

pub after-exists : (first width : ℕ) (events : List FlowEvent)
    → (answers : List Applied) × (fates : Fates) × (x : ℕ) × IsAfter first width events answers fates × IsExpected fates x
after-exists first width events = leads-exists first width 0 events no_fates (sound-none width)

-- the verdicts exclude one another
verdict-once : (first width x : ℕ) (fates : Fates) (segment : Segment) (a b : Verdict Segment)
    → IsVerdictOn first width fates x segment a → IsVerdictOn first width fates x segment b → a ≡ b
verdict-once first width x fates segment (Late a) (Late b) p q = ap Late (p.1 ∙ sym q.1)
verdict-once first width x fates segment (Late a) (Beyond b) p q = absurd (p.0 q.0 q.1)
verdict-once first width x fates segment (Late a) (Repeat b) p q = absurd (p.0 q.0 q.1)
verdict-once first width x fates segment (Late a) Kept p q = absurd (p.0 q.0 q.1)
verdict-once first width x fates segment (Beyond a) (Late b) p q = absurd (q.0 p.0 p.1)
verdict-once first width x fates segment (Beyond a) (Beyond b) p q = ap Beyond (p.3 ∙ sym q.3)
verdict-once first width x fates segment (Beyond a) (Repeat b) p q =
    let same = IsAhead-once first x segment.head.sequence p.0 q.0 p.1 q.1 in absurd (omega (arith, p.2, q.2))
verdict-once first width x fates segment (Beyond a) Kept p q =
    let same = IsAhead-once first x segment.head.sequence p.0 q.0 p.1 q.1 in absurd (omega (arith, p.2, q.2))
verdict-once first width x fates segment (Repeat a) (Late b) p q = absurd (q.0 p.0 p.1)
verdict-once first width x fates segment (Repeat a) (Beyond b) p q =
    let same = IsAhead-once first x segment.head.sequence p.0 q.0 p.1 q.1 in absurd (omega (arith, p.2, q.2))
verdict-once first width x fates segment (Repeat a) (Repeat b) p q = ap Repeat (p.4 ∙ sym q.4)
verdict-once first width x fates segment (Repeat a) Kept p q =
    absurd (q.3 (subst (IsKept fates) (IsAhead-once first x segment.head.sequence p.0 q.0 p.1 q.1) p.3))
verdict-once first width x fates segment Kept (Late b) p q = absurd (q.0 p.0 p.1)
verdict-once first width x fates segment Kept (Beyond b) p q =
    let same = IsAhead-once first x segment.head.sequence p.0 q.0 p.1 q.1 in absurd (omega (arith, p.2, q.2))
verdict-once first width x fates segment Kept (Repeat b) p q =
    absurd (p.3 (subst (IsKept fates) (IsAhead-once first x segment.head.sequence q.0 p.0 q.1 p.1) q.3))
verdict-once first width x fates segment Kept Kept p q = refl

Keeps-once : (first width x : ℕ) (fates after other : Fates) (segment : Segment) (verdict : Verdict Segment) → IsVerdictOn first width fates x segment verdict
    → Keeps first x segment verdict fates after → Keeps first x segment verdict fates other → after ≡ other
Keeps-once first width x fates after other segment (Late back) is p q = p ∙ sym q
Keeps-once first width x fates after other segment (Beyond back) is p q = p ∙ sym q
Keeps-once first width x fates after other segment (Repeat back) is p q = p ∙ sym q
Keeps-once first width x fates after other segment Kept is p q = p is.0 is.1 ∙ sym (q is.0 is.1)

-- the answers to a declared loss exclude one another
Declares-once : (first x : ℕ) (fates after other : Fates) (a b : Declared) → Declares first x a fates after → Declares first x b fates other
    → (a ≡ b) × (after ≡ other)
Declares-once first x fates after other NextIsHere b p q = absurd p
Declares-once first x fates after other NothingHeld NextIsHere p q = absurd q
Declares-once first x fates after other NothingHeld NothingHeld p q = (refl, p.1 ∙ sym q.1)
Declares-once first x fates after other NothingHeld (Lost n) p q = absurd (p.0 q.0)
Declares-once first x fates after other (Lost m) NextIsHere p q = absurd q
Declares-once first x fates after other (Lost m) NothingHeld p q = absurd (q.0 p.0)
Declares-once first x fates after other (Lost m) (Lost n) p q = (ap Lost (p.1 ∙ sym q.1), p.2 ∙ sym q.2)

-- tests of the same fact answer alike
same_test : (P : Type 0) (a b : Bool) → (IsTrue a → P) → (P → IsTrue a) → (IsTrue b → P) → (P → IsTrue b) → a ≡ b
same_test P true true to from to' from' = refl
same_test P true false to from to' from' = sym (from' (to refl))
same_test P false true to from to' from' = from (to' refl)
same_test P false false to from to' from' = refl

-- so do losses of just the same indexes
pub LosesJust-once : (P : ℕ → Type 0) (fates after other : Fates) (a b : Bool) → ((i : ℕ) → Decided (P i))
    → LosesJust P a fates after → LosesJust P b fates other → (a ≡ b) × (after ≡ other)
LosesJust-once P fates after other a b decide p q = (
  same_test ((i : ℕ) × P i) a b p.answer.0 p.answer.1 q.answer.0 q.answer.1,
  map.same_map nat_cmp_total nat_cmp-IsAntisymmetric after other (λ i.
      elim (decide i) [
        | inl lost ↦ p.lost i lost ∙ sym (q.lost i lost)
        | inr not_so ↦ p.others i not_so ∙ sym (q.others i not_so)
      ]),
)

-- each event is answered in one way, and changes fates in one way
Changes-once : (first width x : ℕ) (event : FlowEvent) (a b : Applied) (fates after other : Fates) → IsSound width fates x
    → Changes first width x event a fates after → Changes first width x event b fates other → (a ≡ b) × (after ≡ other)
Changes-once first width x (arrives segment) (Arrival a) (Arrival b) fates after other sound p q =
    let same = verdict-once first width x fates segment a b p.0 q.0 in
    (ap Arrival same, Keeps-once first width x fates after other segment b q.0 (subst (λ v. Keeps first x segment v fates after) same p.1) q.1)
Changes-once first width x (arrives segment) (Arrival a) (Decision b) fates after other sound p q = absurd q
Changes-once first width x (arrives segment) (Arrival a) (DecisionTo b) fates after other sound p q = absurd q
Changes-once first width x (arrives segment) (Arrival a) (DecisionSkip b) fates after other sound p q = absurd q
Changes-once first width x (arrives segment) (Decision a) b fates after other sound p q = absurd p
Changes-once first width x (arrives segment) (DecisionTo a) b fates after other sound p q = absurd p
Changes-once first width x (arrives segment) (DecisionSkip a) b fates after other sound p q = absurd p
Changes-once first width x gap (Decision a) (Decision b) fates after other sound p q =
    let same = Declares-once first x fates after other a b p q in (ap Decision same.0, same.1)
Changes-once first width x gap (Decision a) (Arrival b) fates after other sound p q = absurd q
Changes-once first width x gap (Decision a) (DecisionTo b) fates after other sound p q = absurd q
Changes-once first width x gap (Decision a) (DecisionSkip b) fates after other sound p q = absurd q
Changes-once first width x gap (Arrival a) b fates after other sound p q = absurd p
Changes-once first width x gap (DecisionTo a) b fates after other sound p q = absurd p
Changes-once first width x gap (DecisionSkip a) b fates after other sound p q = absurd p
Changes-once first width x (gap_to number) (DecisionTo a) (DecisionTo b) fates after other sound p q =
    let decide = λ (i : ℕ). IsDeclaredTo-decided first x number fates (x + width) i sound.kept_within in
    let same = LosesJust-once (IsDeclaredTo first x number fates) fates after other a b decide p q in
    (ap DecisionTo same.0, same.1)
Changes-once first width x (gap_to number) (DecisionTo a) (Arrival b) fates after other sound p q = absurd q
Changes-once first width x (gap_to number) (DecisionTo a) (Decision b) fates after other sound p q = absurd q
Changes-once first width x (gap_to number) (DecisionTo a) (DecisionSkip b) fates after other sound p q = absurd q
Changes-once first width x (gap_to number) (Arrival a) b fates after other sound p q = absurd p
Changes-once first width x (gap_to number) (Decision a) b fates after other sound p q = absurd p
Changes-once first width x (gap_to number) (DecisionSkip a) b fates after other sound p q = absurd p
Changes-once first width x (skip_to number) (DecisionSkip a) (DecisionSkip b) fates after other sound p q =
    let same = LosesJust-once (IsSkippedTo first x number fates) fates after other a b (IsSkippedTo-decided first x number fates) p q in
    (ap DecisionSkip same.0, same.1)
Changes-once first width x (skip_to number) (DecisionSkip a) (Arrival b) fates after other sound p q = absurd q
Changes-once first width x (skip_to number) (DecisionSkip a) (Decision b) fates after other sound p q = absurd q
Changes-once first width x (skip_to number) (DecisionSkip a) (DecisionTo b) fates after other sound p q = absurd q
Changes-once first width x (skip_to number) (Arrival a) b fates after other sound p q = absurd p
Changes-once first width x (skip_to number) (Decision a) b fates after other sound p q = absurd p
Changes-once first width x (skip_to number) (DecisionTo a) b fates after other sound p q = absurd p

leads-once : (first width x : ℕ) (events : List FlowEvent) (answers others : List Applied) (fates after other : Fates) → IsSound width fates x
    → Leads first width fates events answers after → Leads first width fates events others other → (answers ≡ others) × (after ≡ other)
leads-once first width x [] answers others fates after other sound p q = (p.0 ∙ sym q.0, p.1 ∙ sym q.1)
leads-once first width x (event ∷ events) answers others fates after other sound (m, a, behind, f, expected, changes, leads, are) (n, b, behind', g, expected', changes', leads', are') =
    let at_m = expected-unique fates m x expected sound.expected in
    let at_n = expected-unique fates n x expected' sound.expected in
    let p : Changes first width x event a fates f = subst (λ k. Changes first width k event a fates f) at_m changes in
    let q : Changes first width x event b fates g = subst (λ k. Changes first width k event b fates g) at_n changes' in
    let one = Changes-once first width x event a b fates f g sound p q in
    let next = sound-changes first width x event b fates g sound q in
    let rest = leads-once first width next.0 events behind behind' g after other next.2 (subst (λ (h : Fates). Leads first width h events behind after) one.1 leads) leads' in
    (are ∙ ap (λ t. t ∷ behind) one.0 ∙ ap (λ t. b ∷ t) rest.0 ∙ sym are', rest.1)

pub after-once : (first width : ℕ) (events : List FlowEvent) (answers others : List Applied) (fates after : Fates)
    → IsAfter first width events answers fates → IsAfter first width events others after → (answers ≡ others) × (fates ≡ after)
after-once first width events answers others fates after p q = leads-once first width 0 events answers others no_fates fates after (sound-none width) p q
