use Rattle.frame_comparison.specs.ComparisonText.{here_line}
use Rattle.text_lines.proofs.PutTexts.{puts-one-more}
use Rattle.frame_comparison.proofs.comparison_lines.put_all_here.Goals as goal

pub loop-frame-preserved : goal.loop-frame-preserved
loop-frame-preserved g c =
    puts-one-more g.O.PutText.after c.args.frames.now c.loop-frame.frame-index c.frame-item.result c.loop-frame-test.true here_line c.args.out.now
    c.loop-frame.out c.put_here.new.out c.loop-frame.invariant (rw (← c.frame-item.is) c.put_here.ensures)
