use Rattle.std.proofs.Common.{◌≡◌, ℕ, length, ap, ◌∙◌, subst, arith}
use Rattle.text_lines.specs.Putting.{Puts}
use Rattle.capture_picture.specs.Picture.{picture_in}
use Rattle.capture_picture.specs.Grid.{end_of}
use Rattle.capture_picture.specs.PictureText.{picture_height, panels_text}
use Rattle.capture_picture.specs.declared.grid.Grid.{Grid}
use Rattle.text_lines.proofs.PutTexts.{puts-then}
use Rattle.capture_picture.proofs.picture_text.put_picture.Goals as goal

pub returns : goal.returns
returns g c =
    let picture = c.args.picture.now in
    let channels : c.len.result ≡ length picture.channels.items = omega (arith, c.len.ensures, picture.channels.ok.0) in
    let flows : c.len-2.result ≡ length picture.flows.items = omega (arith, c.len-2.ensures, picture.flows.ok.0) in
    let height : c.picture_height-height.result ≡ picture_height (length picture.channels.items) (length picture.flows.items) =
    c.picture_height-height.ensures ∙ ap (λ (n : ℕ). picture_height n c.len-2.result) channels ∙ ap (λ (n : ℕ). picture_height (length picture.channels.items) n) flows
    in
    let opening = rw height at c.put_opening.ensures in
    let legend = rw c.deref.ensures.value at c.put_legend.ensures in
    let panels =
    subst (λ (grid : Grid). Puts g.O.PutText.after c.put_legend.new.out (panels_text grid (end_of (picture_in picture)) picture.channels.items picture.flows.items) c.put_panels.new.out)
    c.grid-grid.ensures (rw (c.deref-2.ensures.value, c.deref-3.ensures.value, c.end.ensures) at c.put_panels.ensures)
    in
    let foot = rw (height, c.other_count.ensures) at c.put_others.ensures in
    puts-then g.O.PutText.after (puts-then g.O.PutText.after (puts-then g.O.PutText.after (puts-then g.O.PutText.after opening legend) panels) foot) c.put_word.ensures
