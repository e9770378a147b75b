use Rattle.std.proofs.Common.{◌≡◌, ◌++◌, length}
use Rattle.docsis_wire.proofs.segment_parts.SegmentParts.to_segment.Given as goal

abbrev pub invariant-loop-part : goal.invariant-loop-part
invariant-loop-part l = l.payload.items ++ l.parts.payload ≡ l.fn.self.payload

abbrev pub decreases-loop-part : goal.decreases-loop-part
decreases-loop-part l = length l.parts.payload
