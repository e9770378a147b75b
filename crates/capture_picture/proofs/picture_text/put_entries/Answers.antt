use Rattle.capture_picture.specs.PictureText.{entry_text}
use Rattle.capture_picture.specs.declared.picture.PictureChannel.{PictureChannel}
use Rattle.text_lines.proofs.PutTexts.{puts-one-more-numbered}
use Rattle.capture_picture.proofs.picture_text.put_entries.Goals as goal

pub loop-place-preserved : goal.loop-place-preserved
loop-place-preserved g c =
    let any : PictureChannel = record { channel = 0; id = 0 } in
    puts-one-more-numbered g.O.PutText.after c.args.channels.now c.loop-place.place any c.loop-place-test.true entry_text c.args.out.now c.loop-place.out
    c.put_entry.new.out c.loop-place.invariant c.put_entry.ensures
