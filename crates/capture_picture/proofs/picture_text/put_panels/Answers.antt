use Rattle.std.proofs.Common.{◌+◌, ◌*◌, length}
use Rattle.capture_picture.specs.ShownFlow.{ShownFlow}
use Rattle.capture_picture.specs.Panel.{panel_text}
use Rattle.capture_picture.specs.PictureText.{panels_top}
use Rattle.text_lines.proofs.PutTexts.{puts-one-more-numbered}
use Rattle.capture_picture.proofs.picture_text.put_panels.Goals as goal

pub loop-place-preserved : goal.loop-place-preserved
loop-place-preserved g c =
    puts-one-more-numbered g.O.PutText.after c.args.flows.now c.loop-place.place c.index-flows-place.result c.loop-place-test.true
    (λ place (one : ShownFlow). panel_text c.args.grid.now c.args.end c.args.channels.now (panels_top (length c.args.channels.now) + 430 * place) one)
    c.args.out.now c.loop-place.out c.put_panel.new.out c.loop-place.invariant
    (rw (c.panels_top-top.ensures, c.index-flows-place.is) at c.put_panel.ensures)
