use Rattle.std.specs.Prelude.{◌≡◌, ℕ, ◌+◌, Bool, List, length}
use Rattle.std.specs.List.{concat}
use Rattle.docsis_wire.specs.declared.segment.Segment.{Segment}
use Rattle.ccf.specs.declared.joiner.FedUnlessWhole.{FedUnlessWhole}
use Rattle.ccf.specs.declared.joiner.FedUnlessWhole.TheVariants.{Whole, Fed}
use Rattle.ccf.specs.Feed.{Feeds, IsOneFrame}

-- What becomes of a segment that is fed unless it is one whole frame by itself: it is one, and
-- nothing changed; or it isn't, and it was fed.
abbrev pub FeedsUnlessWhole : (List ℕ → Bool) → List ℕ → Segment → FedUnlessWhole → List ℕ → Type 0
FeedsUnlessWhole check before segment Whole after = IsOneFrame check before segment × (after ≡ before)
FeedsUnlessWhole check before segment (Fed fed) after =
    ¬ (IsOneFrame check before segment) × Feeds check before segment fed.frames.items after
    × (fed.skipped + length (concat fed.frames.items) + length after ≡ length before + length segment.payload)
