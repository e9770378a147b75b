use Rattle.frame_comparison.specs.ComparisonText.{flow_line}
use Rattle.frame_comparison.specs.Seen.{no_counts}
use Rattle.text_lines.proofs.PutTexts.{puts-one-more-numbered}
use Rattle.frame_comparison.proofs.comparison_lines.put_all_flows.Goals as goal

pub loop-flow-preserved : goal.loop-flow-preserved
loop-flow-preserved g c =
    puts-one-more-numbered g.O.PutText.after c.args.counts.now c.loop-flow.flow no_counts c.loop-flow-test.true (flow_line c.args.sfids.now) c.args.out.now c.loop-flow.out
    c.put_flow.new.out c.loop-flow.invariant c.put_flow.ensures
