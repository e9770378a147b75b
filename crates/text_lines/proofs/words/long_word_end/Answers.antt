use Rattle.text_lines.specs.Lines.{is_separator}
use Rattle.text_lines.proofs.FirstBytes.{position-first}
use Rattle.text_lines.proofs.words.long_word_end.Goals as goal

pub returns : goal.returns
returns c = position-first is_separator c.args.line.now c.memchr3.result c.memchr3.ensures
