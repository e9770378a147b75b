-- Which lists of events are those of a modem's cut.
use Rattle.std.specs.Prelude.{◌≡◌, ℕ, ◌+◌, ◌<◌, ◌≤◌, Some, List, ◌∷◌, ◌++◌, length, slice_get}
use Rattle.docsis_wire.specs.declared.segment.Segment.{Segment}
use Rattle.reorder.specs.Limits.{numbers_ahead}
use Rattle.flow_core.specs.declared.event.Applied.{Applied}
use Rattle.flow_core.specs.Fates.{Fates, number_of, IsExpected}
use Rattle.flow_core.specs.Events.{FlowEvent, arrives, skip_to, IsAfter}

-- a segment of the cut, with an index from 4096 before the expected index x up to, not including,
-- 4096 after it
pub record IsNearTo (segments : List Segment) (x : ℕ) (segment : Segment) : Type 0 where
  pub index : ℕ
  pub of_cut : slice_get segments index ≡ Some segment
  pub from : x ≤ index + numbers_ahead
  pub to : index < x + numbers_ahead

-- Near events: each segment that arrives is one of the cut's, and comes when the expected index is
-- so near to its own.
abbrev pub AreNear : ℕ → ℕ → List Segment → List FlowEvent → Type 0
AreNear first width segments events =
    (before behind : List FlowEvent) (segment : Segment) (answers : List Applied) (fates : Fates) (x : ℕ)
    → events ≡ before ++ arrives segment ∷ behind → IsAfter first width before answers fates → IsExpected fates x
    → IsNearTo segments x segment

-- each segment that arrives is one of the cut's
abbrev pub AreOfCut : List Segment → List FlowEvent → Type 0
AreOfCut segments events =
    (before behind : List FlowEvent) (segment : Segment) → events ≡ before ++ arrives segment ∷ behind
    → (i : ℕ) × (slice_get segments i ≡ Some segment)

-- each skip is up to the number of one of the cut's indexes, or of the one after them
abbrev pub AreSkipsWithin : ℕ → List Segment → List FlowEvent → Type 0
AreSkipsWithin first segments events =
    (before behind : List FlowEvent) (number : ℕ) → events ≡ before ++ skip_to number ∷ behind
    → (i : ℕ) × (i ≤ length segments) × (number ≡ number_of first i)
