use Rattle.std.specs.Prelude.{◌≡◌, ℕ, Bool, Option, Some, None, List, [], ◌∷◌, ◌++◌}
use Rattle.docsis_wire.specs.declared.segment.Segment.{Segment}
use Rattle.ccf.specs.Feed.{Feeds}

-- A settled list has each segment of a flow in order, or the mark that it is lost, which makes what
-- is unfinished empty. With these bytes unfinished before, it joins to these frames, and then these
-- bytes are unfinished.
abbrev pub Joins : (List ℕ → Bool) → List ℕ → List (Option Segment) → List (List ℕ) → List ℕ → Type 0
Joins check before [] frames after = (frames ≡ []) × (after ≡ before)
Joins check before (None ∷ settled) frames after = Joins check [] settled frames after
Joins check before (Some segment ∷ settled) frames after =
    (fed : List (List ℕ)) × (rest : List (List ℕ)) × (between : List ℕ)
    × Feeds check before segment fed between × Joins check between settled rest after × (frames ≡ fed ++ rest)
