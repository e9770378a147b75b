use Rattle.text_lines.proofs.PutTexts.{puts-one-more-numbered}
use Rattle.texts.specs.Inside.Selected.{selected_flow_lines}
use Rattle.texts.proofs.report_text.put_flows.Goals as goal

pub loop-k-preserved : goal.loop-k-preserved
loop-k-preserved g c =
    puts-one-more-numbered g.O.PutText.after c.args.flows.now c.loop-k.k c.index-flows-k.result c.loop-k-test.true
    (selected_flow_lines c.args.selected.now) c.args.out.now c.loop-k.out c.put_flow.new.out c.loop-k.invariant (rw c.index-flows-k.is at c.put_flow.ensures)
