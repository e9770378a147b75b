use Rattle.texts.specs.Follow.{tally_line}
use Rattle.text_lines.proofs.PutTexts.{puts-one-more-numbered}
use Rattle.texts.proofs.follow.lines.put_tallies.Goals as goal

pub loop-channel-preserved : goal.loop-channel-preserved
loop-channel-preserved g c =
    puts-one-more-numbered g.O.PutText.after c.args.tallies.now c.loop-channel.channel (record { admitted = 0; refused = 0 }) c.loop-channel-test.true
    tally_line c.args.out.now c.loop-channel.out c.put_tally.new.out c.loop-channel.invariant c.put_tally.ensures
