use Rattle.texts.specs.Report.{lane_line}
use Rattle.text_lines.proofs.PutTexts.{puts-one-more-numbered}
use Rattle.texts.proofs.report_text.put_lanes.Goals as goal

pub loop-channel-preserved : goal.loop-channel-preserved
loop-channel-preserved g c =
    puts-one-more-numbered g.O.PutText.after c.args.lanes.now c.loop-channel.channel c.index-lanes-channel.result c.loop-channel-test.true
    lane_line c.args.out.now c.loop-channel.out c.put_lane_line.new.out c.loop-channel.invariant (rw c.index-lanes-channel.is at c.put_lane_line.ensures)
