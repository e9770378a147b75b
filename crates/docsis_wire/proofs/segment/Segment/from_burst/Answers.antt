-- A fault of the header is the burst's.
use Rattle.std.proofs.Common.{Err, ap, subst, sym}
use Rattle.docsis_wire.specs.SegmentBytes.{PointsPast}
use Rattle.docsis_wire.proofs.segment.Segment.from_burst.Goals as goal

pub returns-in-Err-clause-pointer_past : goal.returns-in-Err-clause-pointer_past
returns-in-Err-clause-pointer_past c = (
  λ same. subst PointsPast c.as_slice.ensures (c.in-Err.ensures.pointer_past.0 (ap Err same)),
  λ past. let e = c.in-Err.ensures.pointer_past.1 (subst PointsPast (sym c.as_slice.ensures) past) in cc,
)
