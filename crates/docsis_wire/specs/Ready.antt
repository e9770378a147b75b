use Rattle.std.specs.Prelude.{◌≡◌, ◌<◌, true, length}
use Rattle.docsis_wire.specs.declared.segment.Segment.{Segment}

-- where a MAC header is said to begin in the segment, it begins within the payload
abbrev pub IsReady : Segment → Type 0
IsReady segment = segment.head.pfi ≡ true → segment.head.pointer < length segment.payload
