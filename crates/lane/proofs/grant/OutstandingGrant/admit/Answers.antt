-- The segment that is read says so.
use Rattle.std.proofs.Common.{Err, ap, subst}
use Rattle.docsis_wire.specs.SegmentBytes.{PointsPast}
use Rattle.lane.proofs.grant.OutstandingGrant.admit.Goals as goal

pub returns-in-Err-PointerPast-clause-made : goal.returns-in-Err-PointerPast-clause-made
returns-in-Err-PointerPast-clause-made c =
    (c.in_default.ensures.0, c.in_default.ensures.1, subst PointsPast c.as_slice.ensures (c.in-Err-PointerPast.ensures.pointer_past.0 (ap Err c.in-Err-PointerPast.field-0-is)))
