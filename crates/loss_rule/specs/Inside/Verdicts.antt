-- The verdicts among some answers.
use Rattle.std.specs.Prelude.{◌≡◌, ℕ, ◌+◌, ◌<◌, ◌≤◌, ◌⊎◌, Some, List, slice_get}
use Rattle.std.specs.FinMap as map
use Rattle.docsis_wire.specs.declared.segment.Segment.{Segment}
use Rattle.reorder.specs.declared.verdict.Verdict.{Verdict}
use Rattle.reorder.specs.declared.verdict.Verdict.TheVariants.{Beyond, Kept}
use Rattle.flow_core.specs.declared.event.Applied.{Applied}
use Rattle.flow_core.specs.declared.event.Applied.TheVariants.{Arrival}
use Rattle.flow_core.specs.Fates.{Fates}

-- each verdict on a segment that arrived has this property
abbrev pub EachVerdict : (Verdict Segment → Type 0) → List Applied → Type 0
EachVerdict P answers = (k : ℕ) (verdict : Verdict Segment) → slice_get answers k ≡ Some (Arrival verdict) → P verdict

-- the segment was kept; or it was, or lay beyond the window
abbrev pub SaysKept : Verdict Segment → Type 0
SaysKept verdict = verdict ≡ Kept

abbrev pub SaysKeptOrBeyond : Verdict Segment → Type 0
SaysKeptOrBeyond verdict = (verdict ≡ Kept) ⊎ ((back : Segment) × (verdict ≡ Beyond back))

-- The segment of index k is kept, or lies beyond the window, where z is the expected index: the
-- answer, and what becomes of the fates.
abbrev pub IsKeptOrBeyond : ℕ → ℕ → ℕ → Segment → Applied → Fates → Fates → Type 0
IsKeptOrBeyond width z k segment answer fates after =
    ((answer ≡ Arrival Kept) × (k < z + width) × (after ≡ map.insert fates k (Some segment)))
    ⊎ ((answer ≡ Arrival (Beyond segment)) × (z + width ≤ k) × (after ≡ fates))
