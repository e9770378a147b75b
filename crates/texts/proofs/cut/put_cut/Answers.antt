-- A line for each segment, one after another.
use Rattle.std.proofs.Common.{Some, refl}
use Rattle.std.specs.Prelude.{flat_map}
use Rattle.docsis_wire.specs.CutUnderWay.{GivesNext}
use Rattle.texts.specs.AnyHeader.{any_header}
use Rattle.texts.specs.Cut.{segment_line}
use Rattle.texts.proofs.PutSoFar.{PutSoFar-more}
use Rattle.texts.proofs.cut.put_cut.Goals as goal

pub loop-segment-preserved : goal.loop-segment-preserved
loop-segment-preserved g c =
    let before = c.loop-segment.cutter in
    let after = c.next.new.self in
    let segment = c.in-Some.segment in
    let so_far = c.loop-segment.invariant.so_far in
    let next : GivesNext before after (Some segment) = rw c.in-Some.is at c.next.ensures in
    let more = c.segments_made_one_by_one_are_the_cut.ensures.one_more c.args.cutter before after so_far.segments segment c.loop-segment.invariant.same so_far.made next in
    record {
      same = more.0;
      so_far = PutSoFar-more g.O.PutText.after before after segment c.args.out.now c.loop-segment.out c.put_segment.new.out so_far more.1 c.put_segment.ensures;
    }

pub returns : goal.returns
returns g c =
    let so_far = c.loop-segment.invariant.so_far in
    let cut = c.segments_made_one_by_one_are_the_cut.ensures.all any_header c.args.cutter c.loop-segment.cutter c.next.new.self so_far.segments c.next.result c.requires.cuttable
    c.loop-segment.invariant.same so_far.made c.next.ensures c.in_default.not-Some in
    (flat_map segment_line so_far.segments, record { segments = so_far.segments; made = record { lawful = cut.0; named = cut.1 }; printed = refl }, so_far.put)
