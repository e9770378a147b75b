use Rattle.std.specs.Prelude.{ℕ, ◌<◌, Option, List}
use Rattle.docsis_wire.specs.declared.segment.Segment.{Segment}
use Rattle.docsis_wire.specs.Stream.{EndsIn}
use Rattle.docsis_wire.specs.Span.{IsInSpan, IsKept}

-- Frame j is completed by chunk n: its last byte lies in that chunk, and each earlier chunk of its
-- span was kept.
pub record IsCompletedBy (frames chunks : List (List ℕ)) (settled : List (Option Segment)) (n j : ℕ) : Type 0 where
  pub ends : EndsIn frames chunks j n
  pub kept : (i : ℕ) → i < n → IsInSpan frames chunks j i → IsKept settled i
