use Rattle.std.proofs.Common.{◌+◌, ◌*◌, length, take}
use Rattle.text_lines.specs.Putting.{Puts, numbered_texts}
use Rattle.capture_picture.specs.ShownFlow.{ShownFlow}
use Rattle.capture_picture.specs.Panel.{panel_text}
use Rattle.capture_picture.specs.PictureText.{panels_top}
use Rattle.capture_picture.proofs.picture_text.put_panels.Given as goal

abbrev pub invariant-loop-place : goal.invariant-loop-place
invariant-loop-place g l =
    Puts g.O.PutText.after l.fn.out
    (numbered_texts (λ place (flow : ShownFlow). panel_text l.grid l.end l.channels (panels_top (length l.channels) + 430 * place) flow) (take l.place l.flows))
    l.out
