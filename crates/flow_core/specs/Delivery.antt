-- The delivery sequence of a flow: the modem's frames whose segments were all kept and lie before
-- the expected one; after the flow's close that is all whose segments were kept. Nothing is said
-- here of how bytes are joined.
use Rattle.std.specs.Prelude.{ℕ, ◌+◌, ◌<◌, ◌≤◌, List, length}
use Rattle.docsis_wire.specs.Stream.{place_of}
use Rattle.docsis_wire.specs.Span.{IsInSpan}
use Rattle.ccf.specs.Filter.{FiltersTo}
use Rattle.flow_core.specs.Fates.{Fates, IsKept, IsExpected}

-- Frame j is wholly in the cut, and each segment of its span was kept, below the expected index x.
pub record IsDelivered (frames chunks : List (List ℕ)) (fates : Fates) (x j : ℕ) : Type 0 where
  pub whole : place_of frames (j + 1) ≤ place_of chunks (length chunks)
  pub kept : (i : ℕ) → IsInSpan frames chunks j i → IsKept fates i
  pub below : (i : ℕ) → IsInSpan frames chunks j i → i < x

-- the modem's frames that are delivered, in the modem's order
abbrev pub IsDeliverySequence : List (List ℕ) → List (List ℕ) → Fates → List (List ℕ) → Type 0
IsDeliverySequence frames chunks fates given =
    (x : ℕ) × IsExpected fates x × FiltersTo (IsDelivered frames chunks fates x) frames given
