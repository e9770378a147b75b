use Rattle.std.specs.Prelude.{◌≡◌, ℕ, ◌<◌, ◌⊎◌, Bool, Option, Some, None, List, length}
use Rattle.docsis_wire.specs.declared.segment.Segment.{Segment}
use Rattle.docsis_wire.specs.Limits.{header_length}
use Rattle.docsis_wire.specs.SegmentBytes.{segment_bytes, PointsPast}
use Rattle.ccf.specs.declared.joiner.Fed.{Fed}
use Rattle.ccf.specs.Feed.{Feeds}

-- the bytes of a segment, which the joiner took
pub record TakesSegment (check : List ℕ → Bool) (bytes before : List ℕ) (fed : Fed) (after : List ℕ) : Type 0 where
  pub segment : Segment
  pub spelled : segment_bytes segment ≡ bytes
  pub feeds : Feeds check before segment fed.frames.items after

-- What a burst does to a joiner: its segment is fed, or it has none and changes nothing.
abbrev pub TakesBurst : (List ℕ → Bool) → List ℕ → List ℕ → Option Fed → List ℕ → Type 0
TakesBurst check bytes before None after = ((length bytes < header_length) ⊎ PointsPast bytes) × (after ≡ before)
TakesBurst check bytes before (Some fed) after = TakesSegment check bytes before fed after
