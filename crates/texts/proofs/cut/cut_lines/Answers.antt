use Rattle.texts.proofs.CutOfLines.{cut_text}
use Rattle.texts.proofs.cut.cut_lines.Goals as goal

pub returns-clause-text : goal.returns-clause-text
returns-clause-text c =
    let read = c.in_ok-read.read in
    let printed = rw c.in_ok-cutter.ensures.begins at c.in_ok-whole_text.ensures in
    rw printed.printed (cut_text c.args.input.items read.frames.items read.pieces.items c.in_ok-read.ensures.read c.args.first c.args.fill printed.segments printed.made)
