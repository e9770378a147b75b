use Rattle.std.proofs.Common.{refl}
use Rattle.texts.specs.Follow.{lines_told}
use Rattle.text_lines.proofs.PutTexts.{puts-closed}
use Rattle.texts.proofs.follow.lines.put_happened.Goals as goal

pub returns-then-is_closed : goal.returns-then-is_closed
returns-then-is_closed g c =
    puts-closed g.O.PutText.after (lines_told c.args.settings.now c.args.line) c.args.happened.now c.loop-one.one-index c.args.out.now c.loop-one.out c.loop-one.invariant
    (c.if-is_closed.ensures refl)
