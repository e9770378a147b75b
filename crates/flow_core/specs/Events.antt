-- The events of a flow, and what each one answers and changes.
use Rattle.std.specs.Prelude.{◌≡◌, ℕ, ◌+◌, ◌<◌, ◌≤◌, ◌↔◌, Bool, Some, None, IsTrue, List, [], ◌∷◌}
use Rattle.std.specs.FinMap as map
use Rattle.docsis_wire.specs.declared.segment.Segment.{Segment}
use Rattle.reorder.specs.Limits.{numbers_ahead}
use Rattle.reorder.specs.declared.verdict.Verdict.{Verdict}
use Rattle.reorder.specs.declared.verdict.Verdict.TheVariants.{Late, Beyond, Repeat, Kept}
use Rattle.reorder.specs.declared.verdict.Declared.{Declared}
use Rattle.reorder.specs.declared.verdict.Declared.TheVariants.{NextIsHere, NothingHeld, Lost}
use Rattle.flow_core.specs.declared.event.Applied.{Applied}
use Rattle.flow_core.specs.declared.event.Applied.TheVariants.{Arrival, Decision, DecisionTo, DecisionSkip}
use Rattle.flow_core.specs.Fates.{Fates, no_fates, number_of, IsKept, IsOpen, IsExpected, HasLaterKept}

-- What happens to one flow: a segment arrives, or a decision declares losses: a gap, which is of
-- one index or of all up to a number, or a skip up to a number.
pub data FlowEvent : Type 0 where
  arrives : Segment → FlowEvent
  gap : FlowEvent
  gap_to : ℕ → FlowEvent
  skip_to : ℕ → FlowEvent

-- The index that a number has, where it lies ahead of the expected index x: from x up to, not
-- including, x + 4096. Every other number lies behind (this project's profile: half of the 8192
-- numbers).
pub record IsAhead (first x number i : ℕ) : Type 0 where
  pub from : x ≤ i
  pub to : i < x + numbers_ahead
  pub numbered : number_of first i ≡ number

-- The verdict on a segment that arrives, where x is the expected index: it lies behind, it lies
-- ahead beyond the window, its index was kept already, or it is kept. All but the last hand it
-- back.
abbrev pub IsVerdictOn : ℕ → ℕ → Fates → ℕ → Segment → Verdict Segment → Type 0
IsVerdictOn first width fates x segment (Late back) =
    ((i : ℕ) → ¬ (IsAhead first x segment.head.sequence i)) × (back ≡ segment)
IsVerdictOn first width fates x segment (Beyond back) =
    (i : ℕ) × IsAhead first x segment.head.sequence i × (x + width ≤ i) × (back ≡ segment)
IsVerdictOn first width fates x segment (Repeat back) =
    (i : ℕ) × IsAhead first x segment.head.sequence i × (i < x + width) × IsKept fates i × (back ≡ segment)
IsVerdictOn first width fates x segment Kept =
    (i : ℕ) × IsAhead first x segment.head.sequence i × (i < x + width) × ¬ (IsKept fates i)

-- only a kept segment changes anything: its index is kept from then on, with this segment
abbrev pub Keeps : ℕ → ℕ → Segment → Verdict Segment → Fates → Fates → Type 0
Keeps first x segment (Late _) fates after = after ≡ fates
Keeps first x segment (Beyond _) fates after = after ≡ fates
Keeps first x segment (Repeat _) fates after = after ≡ fates
Keeps first x segment Kept fates after =
    (i : ℕ) → IsAhead first x segment.head.sequence i → after ≡ map.insert fates i (Some segment)

-- A gap decision: the expected index x is lost if a segment after it was kept, and otherwise
-- nothing changes. (The segment of x itself is never there, since x is open.)
abbrev pub Declares : ℕ → ℕ → Declared → Fates → Fates → Type 0
Declares first x (Lost number) fates after =
    HasLaterKept fates x × (number ≡ number_of first x) × (after ≡ map.insert fates x None)
Declares first x NothingHeld fates after = ¬ (HasLaterKept fates x) × (after ≡ fates)
Declares first x NextIsHere fates after = ⊥

-- Exactly the indexes with this property are lost, and what became of all others stays. The answer
-- says whether there is one.
pub record LosesJust (P : ℕ → Type 0) (any : Bool) (fates after : Fates) : Type 0 where
  pub lost : (i : ℕ) → P i → map.get after i ≡ Some None
  pub others : (i : ℕ) → ¬ (P i) → map.get after i ≡ map.get fates i
  pub answer : IsTrue any ↔ ((i : ℕ) × P i)

-- the indexes that a gap decision up to a number declares lost: open ones from the expected one on,
-- before the one with that number, with a kept segment after them
pub record IsDeclaredTo (first x number : ℕ) (fates : Fates) (i : ℕ) : Type 0 where
  pub end : ℕ
  pub ahead : IsAhead first x number end
  pub from : x ≤ i
  pub before : i < end
  pub open_itself : IsOpen fates i
  pub later_kept : HasLaterKept fates i

-- A gap decision up to a number: these indexes are lost.
abbrev pub DeclaresTo : ℕ → ℕ → ℕ → Bool → Fates → Fates → Type 0
DeclaresTo first x number declared fates after = LosesJust (IsDeclaredTo first x number fates) declared fates after

-- the indexes that a skip up to a number loses: all open ones from the expected one on, before the
-- one with that number
pub record IsSkippedTo (first x number : ℕ) (fates : Fates) (i : ℕ) : Type 0 where
  pub end : ℕ
  pub ahead : IsAhead first x number end
  pub from : x ≤ i
  pub before : i < end
  pub open_itself : IsOpen fates i

-- A skip up to a number: these indexes are lost, whether or not a segment after them was kept.
abbrev pub SkipsTo : ℕ → ℕ → ℕ → Bool → Fates → Fates → Type 0
SkipsTo first x number skipped fates after = LosesJust (IsSkippedTo first x number fates) skipped fates after

-- what an event answers and changes, where x is the expected index
abbrev pub Changes : ℕ → ℕ → ℕ → FlowEvent → Applied → Fates → Fates → Type 0
Changes first width x (arrives segment) (Arrival verdict) fates after =
    IsVerdictOn first width fates x segment verdict × Keeps first x segment verdict fates after
Changes first width x gap (Decision declared) fates after = Declares first x declared fates after
Changes first width x (gap_to number) (DecisionTo declared) fates after = DeclaresTo first x number declared fates after
Changes first width x (skip_to number) (DecisionSkip skipped) fates after = SkipsTo first x number skipped fates after
Changes first width x _ _ fates after = ⊥

-- Events one after another lead from some fates to others, with an answer to each. Of a flow the
-- first number and the window's width are given.
abbrev pub Leads : ℕ → ℕ → Fates → List FlowEvent → List Applied → Fates → Type 0
Leads first width fates [] answers after = (answers ≡ []) × (after ≡ fates)
Leads first width fates (event ∷ events) answers after =
    (x : ℕ) × (answer : Applied) × (rest : List Applied) × (between : Fates)
    × IsExpected fates x × Changes first width x event answer fates between × Leads first width between events rest after
    × (answers ≡ answer ∷ rest)

-- what became of a flow of which these are all the events so far, and how they were answered
abbrev pub IsAfter : ℕ → ℕ → List FlowEvent → List Applied → Fates → Type 0
IsAfter first width events answers fates = Leads first width no_fates events answers fates
