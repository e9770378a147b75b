-- A fault of the header is the segment's.
use Rattle.std.proofs.Common.{◌≡◌, Err, ap}
use Rattle.docsis_wire.specs.declared.segment.SegmentFault.TheVariants.{PointerPast}
use Rattle.docsis_wire.proofs.segment.Segment.read.Goals as goal

pub returns-in-Err-clause-pointer_past : goal.returns-in-Err-clause-pointer_past
returns-in-Err-clause-pointer_past c = (
  λ e. let same : c.in-Err.fault ≡ PointerPast = cc in c.in-Err.ensures.pointer_past.0 (ap Err same),
  λ past. let e = c.in-Err.ensures.pointer_past.1 past in let same : c.in-Err.fault ≡ PointerPast = cc in ap Err same,
)
