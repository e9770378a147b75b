-- The frames of the segments so far.
use Rattle.std.specs.Prelude.{ℕ, List, [], map, Some}
use Rattle.docsis_wire.specs.declared.segment.Segment.{Segment}
use Rattle.ccf.specs.Join.{Joins}
use Rattle.texts.specs.AnyHeader.{any_header}

-- these segments, none of them lost, join to these frames, and leave these bytes unfinished
abbrev pub IsJoinedSoFar : List Segment → List ℕ → List (List ℕ) → Type 0
IsJoinedSoFar segments unfinished frames = Joins any_header [] (map Some segments) frames unfinished
