-- The close of a flow: gaps, as many as still change anything.
use Rattle.std.specs.Prelude.{◌≡◌, ℕ, ◌+◌, ◌≤◌, Bool, true, false, List, ◌∷◌, ◌++◌, length, replicate}
use Rattle.docsis_wire.specs.declared.segment.Segment.{Segment}
use Rattle.docsis_wire.specs.Stream.{place_of}
use Rattle.docsis_wire.specs.Span.{IsInSpan}
use Rattle.reorder.specs.declared.verdict.Declared.TheVariants.{Lost}
use Rattle.flow_core.specs.declared.event.Applied.{Applied}
use Rattle.flow_core.specs.declared.event.Applied.TheVariants.{Decision}
use Rattle.flow_core.specs.Fates.{Fates, IsKept, IsExpected, HasLaterKept}
use Rattle.flow_core.specs.Events.{FlowEvent, arrives, gap, skip_to, IsSkippedTo, Leads, IsAfter}

-- no declared loss would change anything any more
abbrev pub IsClosed : Fates → Type 0
IsClosed fates = (x : ℕ) × IsExpected fates x × ¬ (HasLaterKept fates x)

-- Closing a flow with these fates leads to those: as many gaps as still change anything, and
-- possibly some more.
abbrev pub Closes : ℕ → ℕ → Fates → Fates → Type 0
Closes first width fates after = (n : ℕ) × (answers : List Applied) × Leads first width fates (replicate n gap) answers after × IsClosed after

-- the answer to a gap is that a number was declared lost
abbrev pub says_lost : Applied → Bool
says_lost (Decision (Lost _)) = true
says_lost _ = false

-- frame j lies wholly in the cut, and each segment of its span was kept
pub record IsAllKept (frames chunks : List (List ℕ)) (fates : Fates) (j : ℕ) : Type 0 where
  pub whole : place_of frames (j + 1) ≤ place_of chunks (length chunks)
  pub kept : (i : ℕ) → IsInSpan frames chunks j i → IsKept fates i

-- no segment arrives
abbrev pub HaveNoArrival : List FlowEvent → Type 0
HaveNoArrival events = (before behind : List FlowEvent) (segment : Segment) → ¬ (events ≡ before ++ arrives segment ∷ behind)

-- nothing is skipped
abbrev pub HaveNoSkip : List FlowEvent → Type 0
HaveNoSkip events = (before behind : List FlowEvent) (number : ℕ) → ¬ (events ≡ before ++ skip_to number ∷ behind)

-- A skip among the events passed the index: it was open, and before the one of the skip's number.
pub record IsSkippedBy (first width : ℕ) (events : List FlowEvent) (i : ℕ) : Type 0 where
  pub before : List FlowEvent
  pub behind : List FlowEvent
  pub number : ℕ
  pub events_are : events ≡ before ++ skip_to number ∷ behind
  pub answers : List Applied
  pub fates : Fates
  pub after : IsAfter first width before answers fates
  pub x : ℕ
  pub expected : IsExpected fates x
  pub skipped : IsSkippedTo first x number fates i
