use Rattle.text_lines.specs.Lines.{is_separator}
use Rattle.text_lines.proofs.SeparatorMarks.{first_marked}
use Rattle.text_lines.proofs.words.word_end.Goals as goal

pub returns : goal.returns
returns c =
    first_marked is_separator c.args.line.now c.in-Some.front.now c.separator_marks-marks.result c.in-Some.ensures.cases.same c.in-Some.ensures.cases.enough
    c.separator_marks-marks.ensures c.if-marks-eq0.false
