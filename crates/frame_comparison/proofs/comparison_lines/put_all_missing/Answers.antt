use Rattle.frame_comparison.specs.ComparisonText.{missing_line}
use Rattle.text_lines.proofs.PutTexts.{puts-one-more-numbered}
use Rattle.frame_comparison.proofs.comparison_lines.put_all_missing.Goals as goal

pub loop-place-preserved : goal.loop-place-preserved
loop-place-preserved g c =
    puts-one-more-numbered g.O.PutText.after c.args.frames.now c.loop-place.place c.index-frames-place.result c.loop-place-test.true (missing_line c.args.reasons.now) c.args.out.now
    c.loop-place.out c.put_missing.new.out c.loop-place.invariant (rw (← c.index-frames-place.is) c.put_missing.ensures)
