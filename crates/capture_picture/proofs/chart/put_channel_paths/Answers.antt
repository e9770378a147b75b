use Rattle.capture_picture.specs.Charts.{channel_path}
use Rattle.capture_picture.specs.declared.picture.PictureChannel.{PictureChannel}
use Rattle.text_lines.proofs.PutTexts.{puts-one-more-numbered}
use Rattle.capture_picture.proofs.chart.put_channel_paths.Goals as goal

pub loop-place-preserved : goal.loop-place-preserved
loop-place-preserved g c =
    let any : PictureChannel = record { channel = 0; id = 0 } in
    puts-one-more-numbered g.O.PutText.after c.args.channels.now c.loop-place.place any c.loop-place-test.true
    (λ place (channel : PictureChannel). channel_path c.args.chart c.args.whole c.args.grid.now c.args.columns.now place channel.channel) c.args.out.now
    c.loop-place.out c.put_channel_path.new.out c.loop-place.invariant c.put_channel_path.ensures
