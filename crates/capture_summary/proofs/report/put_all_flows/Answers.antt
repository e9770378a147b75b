use Rattle.std.proofs.Common.{false}
use Rattle.capture_summary.specs.Counting.{new_flow}
use Rattle.capture_summary.specs.Report.{flow_lines}
use Rattle.text_lines.proofs.PutTexts.{puts-one-more-numbered}
use Rattle.capture_summary.proofs.report.put_all_flows.Goals as goal

pub loop-k-preserved : goal.loop-k-preserved
loop-k-preserved g c =
    puts-one-more-numbered g.O.PutText.after c.args.flows.now c.loop-k.k (record (new_flow 0) { is_selected = false }) c.loop-k-test.true flow_lines c.args.out.now c.loop-k.out c.put_flow.new.out
    c.loop-k.invariant c.put_flow.ensures
