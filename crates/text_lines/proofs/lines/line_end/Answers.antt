use Rattle.text_lines.specs.Lines.{is_line_feed}
use Rattle.text_lines.proofs.FirstBytes.{position-first}
use Rattle.text_lines.proofs.lines.line_end.Goals as goal

pub returns : goal.returns
returns c = position-first is_line_feed c.args.text.now c.memchr.result c.memchr.ensures
