use Rattle.std.specs.Prelude.{◌≡◌, ℕ, List, ◌++◌}
use Rattle.docsis_wire.specs.declared.segment.Segment.{Segment}
use Rattle.docsis_wire.specs.Header.{header_bytes}
use Rattle.docsis_wire.specs.Ready.{IsReady}

-- a segment's bytes: its header, and then the payload
abbrev pub segment_bytes : Segment → List ℕ
segment_bytes segment = header_bytes segment.head ++ segment.payload

-- the bytes of a segment whose pointer leads past its payload
pub record PointsPast (bytes : List ℕ) : Type 0 where
  pub segment : Segment
  pub spelled : segment_bytes segment ≡ bytes
  pub past : ¬ IsReady segment
