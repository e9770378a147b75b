-- Alike events of a flow are answered alike and lead to alike fates.
use Rattle.std.proofs.Common.{◌≡◌, ℕ, ◌+◌, inl, inr, Bool, true, false, IsTrue, IsSome, is_some, Option, Some, None, List, [], ◌∷◌, refl, ap, sym, subst, ◌∙◌, arith}
use Rattle.std.specs.List.{AllZip}
use Rattle.std.specs.FinMap as map
use Rattle.std.proofs.lemmas.Bool.{cases_eq}
use Rattle.docsis_wire.specs.declared.header.SegmentHeader.{SegmentHeader}
use Rattle.docsis_wire.specs.declared.segment.Segment.{Segment}
use Rattle.reorder.specs.declared.verdict.Verdict.{Verdict}
use Rattle.reorder.specs.declared.verdict.Verdict.TheVariants.{Late, Beyond, Repeat, Kept}
use Rattle.reorder.specs.declared.verdict.Declared.{Declared}
use Rattle.reorder.specs.declared.verdict.Declared.TheVariants.{NextIsHere, NothingHeld, Lost}
use Rattle.reorder.proofs.Items.{get-insert_same, get-insert_other}
use Rattle.flow_core.specs.declared.event.Applied.{Applied}
use Rattle.flow_core.specs.declared.event.Applied.TheVariants.{Arrival, Decision, DecisionTo, DecisionSkip}
use Rattle.flow_core.specs.Fates.{Fates, IsKept, IsOpen, IsExpected, HasLaterKept}
use Rattle.flow_core.specs.Events.{FlowEvent, arrives, gap, gap_to, skip_to, IsAhead, IsVerdictOn, Keeps, Declares, LosesJust, IsDeclaredTo, IsSkippedTo, Changes, Leads}
use Rattle.flow_core.proofs.Deciding.{Decided, open_or_settled, IsAhead-once, IsDeclaredTo-decided, IsSkippedTo-decided}
use Rattle.flow_core.proofs.Outcome.{IsSound, open_and_settled, expected-unique, sound-changes}
use Rattle.bonded_flows.specs.Answers.{verdict_of}
use Rattle.selected_receiver.proofs.Alike.{EventsAlike, AnswersAlike, heads_of, FatesAlike}

-- ---- alike fates

-- what has such heads
heads-none : (o : Option (Option Segment)) → heads_of o ≡ None → o ≡ None
heads-none None e = refl
heads-none (Some None) e = absurd cc
heads-none (Some (Some segment)) e = absurd cc

heads-kept : (o : Option (Option Segment)) (head : SegmentHeader) → heads_of o ≡ Some (Some head) → (segment : Segment) × (o ≡ Some (Some segment))
heads-kept None head e = absurd cc
heads-kept (Some None) head e = absurd cc
heads-kept (Some (Some segment)) head e = (segment, refl)

-- the other way round
pub fates-flip : (fates others : Fates) → FatesAlike fates others → FatesAlike others fates
fates-flip fates others alike i = sym (alike i)

pub fates-same : (fates : Fates) → FatesAlike fates fates
fates-same fates i = refl

module _ (fates others : Fates) (alike : FatesAlike fates others) where
  -- the same indexes are open, settled and kept
  open-too : (i : ℕ) → IsOpen fates i → IsOpen others i
  open-too i free = heads-none (map.get others i) (alike i ∙ ap heads_of free)

  settled-too : (i : ℕ) → IsSome (map.get fates i) → IsSome (map.get others i)
  settled-too i settled =
      elim (open_or_settled others i) [
        | inl free ↦ absurd (open_and_settled fates i (heads-none (map.get fates i) (sym (alike i) ∙ ap heads_of free)) settled)
        | inr fate ↦ ap is_some fate.1
      ]

  kept-too : (i : ℕ) → IsKept fates i → IsKept others i
  kept-too i kept = heads-kept (map.get others i) kept.0.head (alike i ∙ ap heads_of kept.1)

  later-too : (i : ℕ) → HasLaterKept fates i → HasLaterKept others i
  later-too i later = (later.0, later.1, kept-too later.0 later.2)

  -- the same index is expected
  pub expected-too : (x : ℕ) → IsExpected fates x → IsExpected others x
  expected-too x expected = record { open_itself = open-too x expected.open_itself; settled = λ i below. settled-too i (expected.settled i below) }

  pub expected-alike : (x y : ℕ) → IsExpected fates x → IsExpected others y → y ≡ x
  expected-alike x y expected expects = expected-unique others y x expects (expected-too x expected)

  -- and the same are lost
  skipped-too : (first x number i : ℕ) → IsSkippedTo first x number fates i → IsSkippedTo first x number others i
  skipped-too first x number i is = record { end = is.end; ahead = is.ahead; from = is.from; before = is.before; open_itself = open-too i is.open_itself }

  declared-too : (first x number i : ℕ) → IsDeclaredTo first x number fates i → IsDeclaredTo first x number others i
  declared-too first x number i is = record {
    end = is.end;
    ahead = is.ahead;
    from = is.from;
    before = is.before;
    open_itself = open-too i is.open_itself;
    later_kept = later-too i is.later_kept;
  }

  -- one index more is settled, alike
  insert-alike : (i : ℕ) (fate other : Option Segment) → heads_of (Some other) ≡ heads_of (Some fate) → FatesAlike (map.insert fates i fate) (map.insert others i other)
  insert-alike i fate other same j =
      elim (cases_eq j i) [
        | inl here ↦
            ap (λ (k : ℕ). heads_of (map.get (map.insert others i other) k)) here ∙ ap heads_of (get-insert_same others i other) ∙ same
            ∙ sym (ap (λ (k : ℕ). heads_of (map.get (map.insert fates i fate) k)) here ∙ ap heads_of (get-insert_same fates i fate))
        | inr apart ↦ ap heads_of (get-insert_other others i other j apart) ∙ alike j ∙ sym (ap heads_of (get-insert_other fates i fate j apart))
      ]

  -- losses of the same indexes
  losses-alike : (P Q : ℕ → Type 0) (any some : Bool) (after later : Fates) → ((i : ℕ) → Decided (P i)) → ((i : ℕ) → P i → Q i) → ((i : ℕ) → Q i → P i)
      → LosesJust P any fates after → LosesJust Q some others later → FatesAlike after later
  losses-alike P Q any some after later decide to from loses lost i =
      elim (decide i) [
        | inl is ↦ ap heads_of (lost.lost i (to i is)) ∙ sym (ap heads_of (loses.lost i is))
        | inr not_so ↦ ap heads_of (lost.others i (λ is. not_so (from i is))) ∙ alike i ∙ sym (ap heads_of (loses.others i not_so))
      ]

-- tests of facts that follow from one another answer alike
tests-alike : (A B : Type 0) (a b : Bool) → (IsTrue a → A) → (A → IsTrue a) → (IsTrue b → B) → (B → IsTrue b) → (A → B) → (B → A) → b ≡ a
tests-alike A B true true to from to' from' over back = refl
tests-alike A B true false to from to' from' over back = from' (over (to refl))
tests-alike A B false true to from to' from' over back = sym (from (back (to' refl)))
tests-alike A B false false to from to' from' over back = refl

losses-answer : (P Q : ℕ → Type 0) (any some : Bool) (fates after others later : Fates) → ((i : ℕ) → P i → Q i) → ((i : ℕ) → Q i → P i)
    → LosesJust P any fates after → LosesJust Q some others later → some ≡ any
losses-answer P Q any some fates after others later to from loses lost =
    tests-alike ((i : ℕ) × P i) ((i : ℕ) × Q i) any some loses.answer.0 loses.answer.1 lost.answer.0 lost.answer.1
    (λ one. (one.0, to one.0 one.1)) (λ one. (one.0, from one.0 one.1))

-- ---- one event

-- what each kind of event answers
arrival-answer : (first width x : ℕ) (segment : Segment) (answer : Applied) (fates after : Fates) → Changes first width x (arrives segment) answer fates after
    → (verdict : Verdict Segment) × (answer ≡ Arrival verdict) × IsVerdictOn first width fates x segment verdict × Keeps first x segment verdict fates after
arrival-answer first width x segment (Arrival verdict) fates after changes = (verdict, refl, changes.0, changes.1)
arrival-answer first width x segment (Decision declared) fates after changes = absurd changes
arrival-answer first width x segment (DecisionTo any) fates after changes = absurd changes
arrival-answer first width x segment (DecisionSkip any) fates after changes = absurd changes

gap-answer : (first width x : ℕ) (answer : Applied) (fates after : Fates) → Changes first width x gap answer fates after
    → (declared : Declared) × (answer ≡ Decision declared) × Declares first x declared fates after
gap-answer first width x (Arrival verdict) fates after changes = absurd changes
gap-answer first width x (Decision declared) fates after changes = (declared, refl, changes)
gap-answer first width x (DecisionTo any) fates after changes = absurd changes
gap-answer first width x (DecisionSkip any) fates after changes = absurd changes

gap_to-answer : (first width x number : ℕ) (answer : Applied) (fates after : Fates) → Changes first width x (gap_to number) answer fates after
    → (any : Bool) × (answer ≡ DecisionTo any) × LosesJust (IsDeclaredTo first x number fates) any fates after
gap_to-answer first width x number (Arrival verdict) fates after changes = absurd changes
gap_to-answer first width x number (Decision declared) fates after changes = absurd changes
gap_to-answer first width x number (DecisionTo any) fates after changes = (any, refl, changes)
gap_to-answer first width x number (DecisionSkip any) fates after changes = absurd changes

skip_to-answer : (first width x number : ℕ) (answer : Applied) (fates after : Fates) → Changes first width x (skip_to number) answer fates after
    → (any : Bool) × (answer ≡ DecisionSkip any) × LosesJust (IsSkippedTo first x number fates) any fates after
skip_to-answer first width x number (Arrival verdict) fates after changes = absurd changes
skip_to-answer first width x number (Decision declared) fates after changes = absurd changes
skip_to-answer first width x number (DecisionTo any) fates after changes = absurd changes
skip_to-answer first width x number (DecisionSkip any) fates after changes = (any, refl, changes)

module _ (first width x : ℕ) (fates others after later : Fates) (alike : FatesAlike fates others) where
  -- a segment that arrives
  module _ (segment other : Segment) (head : other.head ≡ segment.head) where
    -- its number has the same index ahead
    ahead-too : (i : ℕ) → IsAhead first x segment.head.sequence i → IsAhead first x other.head.sequence i
    ahead-too i ahead = subst (λ (h : SegmentHeader). IsAhead first x h.sequence i) (sym head) ahead

    ahead-back : (i : ℕ) → IsAhead first x other.head.sequence i → IsAhead first x segment.head.sequence i
    ahead-back i ahead = subst (λ (h : SegmentHeader). IsAhead first x h.sequence i) head ahead

    same-index : (i j : ℕ) → IsAhead first x segment.head.sequence i → IsAhead first x other.head.sequence j → i ≡ j
    same-index i j p q = IsAhead-once first x segment.head.sequence i j p (ahead-back j q)

    -- nothing changes
    stays-alike : after ≡ fates → later ≡ others → FatesAlike after later
    stays-alike p q = subst (λ (f : Fates). FatesAlike f later) (sym p) (subst (FatesAlike fates) (sym q) alike)

    -- it is judged alike, and kept alike
    verdicts-alike : (a b : Verdict Segment) → IsVerdictOn first width fates x segment a → Keeps first x segment a fates after
        → IsVerdictOn first width others x other b → Keeps first x other b others later → (verdict_of b ≡ verdict_of a) × FatesAlike after later
    verdicts-alike (Late a) (Late b) p keeps q kept = (refl, stays-alike keeps kept)
    verdicts-alike (Late a) (Beyond b) p keeps q kept = absurd (p.0 q.0 (ahead-back q.0 q.1))
    verdicts-alike (Late a) (Repeat b) p keeps q kept = absurd (p.0 q.0 (ahead-back q.0 q.1))
    verdicts-alike (Late a) Kept p keeps q kept = absurd (p.0 q.0 (ahead-back q.0 q.1))
    verdicts-alike (Beyond a) (Late b) p keeps q kept = absurd (q.0 p.0 (ahead-too p.0 p.1))
    verdicts-alike (Beyond a) (Beyond b) p keeps q kept = (refl, stays-alike keeps kept)
    verdicts-alike (Beyond a) (Repeat b) p keeps q kept = let same = same-index p.0 q.0 p.1 q.1 in absurd (omega (arith, p.2, q.2))
    verdicts-alike (Beyond a) Kept p keeps q kept = let same = same-index p.0 q.0 p.1 q.1 in absurd (omega (arith, p.2, q.2))
    verdicts-alike (Repeat a) (Late b) p keeps q kept = absurd (q.0 p.0 (ahead-too p.0 p.1))
    verdicts-alike (Repeat a) (Beyond b) p keeps q kept = let same = same-index p.0 q.0 p.1 q.1 in absurd (omega (arith, p.2, q.2))
    verdicts-alike (Repeat a) (Repeat b) p keeps q kept = (refl, stays-alike keeps kept)
    verdicts-alike (Repeat a) Kept p keeps q kept =
        absurd (q.3 (subst (IsKept others) (same-index p.0 q.0 p.1 q.1) (kept-too fates others alike p.0 p.3)))
    verdicts-alike Kept (Late b) p keeps q kept = absurd (q.0 p.0 (ahead-too p.0 p.1))
    verdicts-alike Kept (Beyond b) p keeps q kept = let same = same-index p.0 q.0 p.1 q.1 in absurd (omega (arith, p.2, q.2))
    verdicts-alike Kept (Repeat b) p keeps q kept =
        absurd (p.3 (subst (IsKept fates) (sym (same-index p.0 q.0 p.1 q.1)) (kept-too others fates (fates-flip fates others alike) q.0 q.3)))
    verdicts-alike Kept Kept p keeps q kept = (
      refl,
      subst (λ (f : Fates). FatesAlike f later) (sym (keeps p.0 p.1))
          (subst (FatesAlike (map.insert fates p.0 (Some segment))) (sym (kept p.0 (ahead-too p.0 p.1)))
          (insert-alike fates others alike p.0 (Some segment) (Some other) (ap (λ (h : SegmentHeader). Some (Some h)) head))),
    )

  -- a gap
  declares-alike : (a b : Declared) → Declares first x a fates after → Declares first x b others later → (b ≡ a) × FatesAlike after later
  declares-alike NextIsHere b p q = absurd p
  declares-alike NothingHeld NextIsHere p q = absurd q
  declares-alike NothingHeld NothingHeld p q = (refl, subst (λ (f : Fates). FatesAlike f later) (sym p.1) (subst (FatesAlike fates) (sym q.1) alike))
  declares-alike NothingHeld (Lost n) p q = absurd (p.0 (later-too others fates (fates-flip fates others alike) x q.0))
  declares-alike (Lost m) NextIsHere p q = absurd q
  declares-alike (Lost m) NothingHeld p q = absurd (q.0 (later-too fates others alike x p.0))
  declares-alike (Lost m) (Lost n) p q = (
    ap Lost (q.1 ∙ sym p.1),
    subst (λ (f : Fates). FatesAlike f later) (sym p.2) (subst (FatesAlike (map.insert fates x None)) (sym q.2) (insert-alike fates others alike x None None refl)),
  )

  -- each event is answered alike, and changes alike
  pub changes-alike : (event other : FlowEvent) (a b : Applied) → IsSound width fates x → EventsAlike event other → Changes first width x event a fates after
      → Changes first width x other b others later → AnswersAlike a b × FatesAlike after later
  changes-alike (arrives segment) other a b sound is p q =
      let one = arrival-answer first width x segment a fates after p in
      let two = arrival-answer first width x is.0 b others later (subst (λ (e : FlowEvent). Changes first width x e b others later) is.1 q) in
      let both = verdicts-alike segment is.0 is.2 one.0 two.0 one.2 one.3 two.2 two.3 in
      (subst (λ (t : Applied). AnswersAlike t b) (sym one.1) (two.0, two.1, both.0), both.1)
  changes-alike gap other a b sound is p q =
      let one = gap-answer first width x a fates after p in
      let two = gap-answer first width x b others later (subst (λ (e : FlowEvent). Changes first width x e b others later) is q) in
      let both = declares-alike one.0 two.0 one.2 two.2 in
      (subst (λ (t : Applied). AnswersAlike t b) (sym one.1) (two.1 ∙ ap Decision both.0), both.1)
  changes-alike (gap_to number) other a b sound is p q =
      let one = gap_to-answer first width x number a fates after p in
      let two = gap_to-answer first width x number b others later (subst (λ (e : FlowEvent). Changes first width x e b others later) is q) in
      let P = IsDeclaredTo first x number fates in
      let Q = IsDeclaredTo first x number others in
      let to = declared-too fates others alike first x number in
      let from = declared-too others fates (fates-flip fates others alike) first x number in (
        subst (λ (t : Applied). AnswersAlike t b) (sym one.1)
            (two.1 ∙ ap DecisionTo (losses-answer P Q one.0 two.0 fates after others later to from one.2 two.2)),
        losses-alike fates others alike P Q one.0 two.0 after later (λ i. IsDeclaredTo-decided first x number fates (x + width) i sound.kept_within) to from one.2 two.2,
      )
  changes-alike (skip_to number) other a b sound is p q =
      let one = skip_to-answer first width x number a fates after p in
      let two = skip_to-answer first width x number b others later (subst (λ (e : FlowEvent). Changes first width x e b others later) is q) in
      let P = IsSkippedTo first x number fates in
      let Q = IsSkippedTo first x number others in
      let to = skipped-too fates others alike first x number in
      let from = skipped-too others fates (fates-flip fates others alike) first x number in (
        subst (λ (t : Applied). AnswersAlike t b) (sym one.1)
            (two.1 ∙ ap DecisionSkip (losses-answer P Q one.0 two.0 fates after others later to from one.2 two.2)),
        losses-alike fates others alike P Q one.0 two.0 after later (IsSkippedTo-decided first x number fates) to from one.2 two.2,
      )

-- ---- events one after another

pub leads-alike : (first width x : ℕ) (events more : List FlowEvent) (answers replies : List Applied) (fates others after later : Fates) → IsSound width fates x
    → FatesAlike fates others → AllZip EventsAlike events more → Leads first width fates events answers after → Leads first width others more replies later
    → AllZip AnswersAlike answers replies × FatesAlike after later
leads-alike first width x [] [] answers replies fates others after later sound alike all p q = (
  subst (λ (t : List Applied). AllZip AnswersAlike t replies) (sym p.0) (subst (AllZip AnswersAlike []) (sym q.0) tt),
  subst (λ (f : Fates). FatesAlike f later) (sym p.1) (subst (FatesAlike fates) (sym q.1) alike),
)
leads-alike first width x [] (other ∷ more) answers replies fates others after later sound alike all p q = absurd all
leads-alike first width x (event ∷ events) [] answers replies fates others after later sound alike all p q = absurd all
leads-alike first width x (event ∷ events) (other ∷ more) answers replies fates others after later sound alike all (m, a, rest, between, expected, changes, leads, are)
    (n, b, behind, apart, expects, changed, led, is) =
    let at_m = expected-unique fates m x expected sound.expected in
    let at_n = expected-alike fates others alike x n sound.expected expects in
    let p : Changes first width x event a fates between = subst (λ (k : ℕ). Changes first width k event a fates between) at_m changes in
    let q : Changes first width x other b others apart = subst (λ (k : ℕ). Changes first width k other b others apart) at_n changed in
    let one = changes-alike first width x fates others between apart alike event other a b sound all.0 p q in
    let next = sound-changes first width x event a fates between sound p in
    let more_so = leads-alike first width next.0 events more rest behind between apart after later next.2 one.1 all.1 leads led in (
      subst (λ (t : List Applied). AllZip AnswersAlike t replies) (sym are) (subst (AllZip AnswersAlike (a ∷ rest)) (sym is) (one.0, more_so.0)),
      more_so.1,
    )
