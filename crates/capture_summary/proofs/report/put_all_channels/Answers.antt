use Rattle.std.proofs.Common.{[]}
use Rattle.capture_summary.specs.Report.{channel_lines}
use Rattle.capture_summary.specs.declared.channel_summary.ChannelSummary.{ChannelSummary}
use Rattle.text_lines.proofs.PutTexts.{puts-one-more}
use Rattle.capture_summary.proofs.report.put_all_channels.Goals as goal

pub loop-channel-preserved : goal.loop-channel-preserved
loop-channel-preserved g c =
    let any : ChannelSummary = record { channel = 0; id = 0; bursts = 0; above = 0; admitted = 0; refused = record { counts = [] } } in
    puts-one-more g.O.PutText.after c.args.channels.now c.loop-channel.channel-index any c.loop-channel-test.true channel_lines c.args.out.now
    c.loop-channel.out c.put_channel.new.out c.loop-channel.invariant c.put_channel.ensures
