use Rattle.std.proofs.Common.{refl, arith}
use Rattle.docsis_wire.proofs.SegmentReads.{PointsPast-from}
use Rattle.docsis_wire.proofs.segment.Segment.head_of.Goals as goal

pub returns-then-from-payload-clause-pointer_past : goal.returns-then-from-payload-clause-pointer_past
returns-then-from-payload-clause-pointer_past c =
    (λ e. PointsPast-from c.args.bytes.now c.in-Some.head c.in-Some.ensures.spelled c.if-head.true (omega arith), λ past. refl)
