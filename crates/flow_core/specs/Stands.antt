-- What a flow of the code stands for: a list of events.
use Rattle.std.specs.Prelude.{◌≡◌, ℕ, ◌+◌, ◌<◌, ◌≤◌, ◌↔◌, ◌⊎◌, ⊤, Bool, Option, Some, None, List, [], ◌∷◌, ◌++◌}
use Rattle.std.specs.Option.{option_map}
use Rattle.docsis_wire.specs.Limits.{sequence_modulus}
use Rattle.docsis_wire.specs.declared.segment.Segment.{Segment}
use Rattle.docsis_wire.specs.declared.segment.ReadySegment.{ReadySegment}
use Rattle.ccf.specs.Join.{Joins}
use Rattle.reorder.specs.View.{WindowView, held_at, IsLawful}
use Rattle.flow_records.specs.declared.record.FlowRecord.{FlowRecord}
use Rattle.flow_core.specs.declared.flow.Flow.{Flow}
use Rattle.flow_core.specs.declared.up_to.UpTo.{UpTo}
use Rattle.flow_core.specs.declared.up_to.UpTo.TheVariants.{Declare, Skip}
use Rattle.flow_core.specs.declared.event.Applied.{Applied}
use Rattle.flow_core.specs.declared.event.Step.{Step}
use Rattle.flow_core.specs.declared.event.Step.TheVariants.{Frames, Nothing}
use Rattle.flow_core.specs.Fates.{Fates, number_of, kept_at, IsKept, IsLost, IsExpected, HasLaterKept, IsSettledBelow}
use Rattle.flow_core.specs.Events.{FlowEvent, IsAhead, IsAfter}
use Rattle.flow_core.specs.Counts.{AreCounts}

-- The window from index y on: it expects the number of y, and holds just the kept segments from y
-- on, each under its number.
pub record IsWindowFrom (flow_record : FlowRecord) (fates : Fates) (y : ℕ) (window : WindowView ReadySegment) : Type 0 where
  pub lawful : IsLawful window
  pub number : window.expected ≡ number_of flow_record.first y
  pub width : window.width ≡ flow_record.window
  pub holds : (i : ℕ) → y ≤ i → i < y + sequence_modulus
      → option_map (λ ready. ready.segment) (held_at window (number_of flow_record.first i)) ≡ kept_at fates i
  pub within : (i : ℕ) → IsKept fates i → i < y + flow_record.window

-- the number up to which a decision goes
abbrev pub number_to : UpTo → ℕ
number_to (Declare sequence) = sequence.number
number_to (Skip sequence) = sequence.number

-- the indexes that a decision up to a number reaches: a declared loss those with a later kept
-- segment, a skip all
abbrev pub Reaches : UpTo → Fates → ℕ → Type 0
Reaches (Declare _) fates i = HasLaterKept fates i
Reaches (Skip _) fates i = ⊤

-- What a flow remembers of a decision up to a number. Nothing, which it may only if no index from y
-- on was lost. Or a decision to a number whose index lies after y: from y on, exactly those indexes
-- before it are lost that were not kept and that the decision reaches. Then the segment of y was
-- kept.
abbrev pub IsRemembered : ℕ → Fates → ℕ → Option UpTo → Type 0
IsRemembered first fates y None = (i : ℕ) → y ≤ i → ¬ (IsLost fates i)
IsRemembered first fates y (Some up_to) =
    (end : ℕ) × IsAhead first y (number_to up_to) end × (y < end) × IsKept fates y
    × ((i : ℕ) → y ≤ i → IsLost fates i ↔ ((i < end) × ¬ (IsKept fates i) × Reaches up_to fates i))

-- After these events, with these answers, the flow has come to the index y and has given these
-- frames: y is the index whose number the window expects, and all below it is joined or lost. It is
-- the expected index, or one below it whose segment was kept and is the next to be joined.
pub record StandsFor (check : List ℕ → Bool) (flow_record : FlowRecord) (flow : Flow) (events : List FlowEvent) (answers : List Applied) (y : ℕ) (given : List (List ℕ)) : Type 0 where
  pub fates : Fates
  pub after : IsAfter flow_record.first flow_record.window events answers fates
  pub x : ℕ
  pub expected : IsExpected fates x
  pub come_to : (y ≡ x) ⊎ ((y < x) × IsKept fates y)
  pub window : IsWindowFrom flow_record fates y flow.window
  pub remembered : IsRemembered flow_record.first fates y flow.going_on
  pub settled : List (Option Segment)
  pub below : IsSettledBelow fates y settled
  pub joined : Joins check [] settled given flow.joiner
  pub counts : AreCounts answers settled given flow.joiner flow.counts

-- no segment of the flow is next
abbrev pub IsDrained : Flow → Type 0
IsDrained flow = held_at flow.window flow.window.expected ≡ None

-- each index from n up to, not including, m was lost
abbrev pub AreLost : Fates → ℕ → ℕ → Type 0
AreLost fates n m = (i : ℕ) → n ≤ i → i < m → IsLost fates i

-- Whatever events a flow stood for, it stands for them with this one at the end, answered so, and
-- has given the same frames. No segment was joined: it has come further by losses alone.
abbrev pub TakesEvent : Flow → FlowEvent → Applied → Flow → Type 0
TakesEvent flow event answer after =
    (check : List ℕ → Bool) (flow_record : FlowRecord) (events : List FlowEvent) (answers : List Applied) (y : ℕ) (given : List (List ℕ))
    → StandsFor check flow_record flow events answers y given
    → (z : ℕ) × (stands : StandsFor check flow_record after (events ++ event ∷ []) (answers ++ answer ∷ []) z given) × AreLost stands.fates y z

-- Whatever events a flow stood for, it still stands for them, and has given these frames more. One
-- segment was joined, that of the index to which it had come; from there on it has come further by
-- losses alone.
abbrev pub Gives : (List ℕ → Bool) → Flow → List (List ℕ) → Flow → Type 0
Gives check flow frames after =
    (flow_record : FlowRecord) (events : List FlowEvent) (answers : List Applied) (y : ℕ) (given : List (List ℕ))
    → StandsFor check flow_record flow events answers y given
    → (z : ℕ) × (y < z) × (stands : StandsFor check flow_record after events answers z (given ++ frames)) × AreLost stands.fates (y + 1) z

-- What a step answers, and what becomes of the flow: a segment was next, and these frames were
-- given; or none was, and nothing changed.
abbrev pub Advances : (List ℕ → Bool) → Flow → Step → Flow → Type 0
Advances check flow (Frames frames) after = ¬ (IsDrained flow) × Gives check flow frames.items after
Advances check flow Nothing after = IsDrained flow × (after ≡ flow)
