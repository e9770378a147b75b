-- The segments were made one after another.
use Rattle.std.proofs.Common.{Some, sym}
use Rattle.docsis_wire.specs.CutUnderWay.{GivesNext}
use Rattle.docsis_wire.proofs.OneByOne.{HasMade-more, HasMade-all, HasMade-named}
use Rattle.docsis_wire.proofs.cutter.make.Goals as goal

pub loop-parts-preserved : goal.loop-parts-preserved
loop-parts-preserved c =
    let before = c.loop-parts.cutter in
    let next : GivesNext before c.next.new.self (Some c.in_ok-to_segment.field-0) = rw (c.in-Some.is, sym c.in_ok-to_segment.ensures) at c.next.ensures in
    let more = HasMade-more c.args.cutter before c.next.new.self c.loop-parts.segments.items c.in_ok-to_segment.field-0 c.loop-parts.invariant.same c.loop-parts.invariant.made next in
    record { same = more.0; made = rw c.in_ok-push.ensures.items more.1 }

pub returns-clause-lawful : goal.returns-clause-lawful
returns-clause-lawful c = λ check cuttable.
    (HasMade-all check c.args.cutter c.loop-parts.cutter c.next.new.self c.loop-parts.segments.items c.next.result cuttable c.loop-parts.invariant.same c.loop-parts.invariant.made
    c.next.ensures c.in_default.not-Some).0

pub returns-clause-named : goal.returns-clause-named
returns-clause-named c = HasMade-named c.args.cutter c.loop-parts.cutter c.loop-parts.segments.items c.loop-parts.invariant.same c.loop-parts.invariant.made
