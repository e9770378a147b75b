use Rattle.text_lines.proofs.SeparatorMarks.{separators_marked}
use Rattle.text_lines.proofs.words.separator_marks.Goals as goal

pub returns : goal.returns
returns c = separators_marked c.args.bytes c.fits-bytes.0
