use Rattle.std.proofs.Common.{refl}
use Rattle.texts.specs.Join.{frame_line}
use Rattle.text_lines.proofs.PutTexts.{puts-closed}
use Rattle.texts.proofs.join.JoinInput.put_lines.Goals as goal

pub returns-then-is_closed : goal.returns-then-is_closed
returns-then-is_closed g c =
    rw c.deref-frame-items.ensures.value at
    (puts-closed g.O.PutText.after frame_line c.deref-frame-items.result.now c.loop-frame.frame-index c.args.out.now c.loop-frame.out c.loop-frame.invariant
    (c.if-is_closed.ensures refl))
