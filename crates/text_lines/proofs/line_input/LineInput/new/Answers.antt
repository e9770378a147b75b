use Rattle.text_lines.proofs.BytesTaken.{bytes-none}
use Rattle.text_lines.proofs.line_input.LineInput.new.Goals as goal

pub returns : goal.returns
returns g c = λ start stands. bytes-none g.T.TakeLine.format start g.T.TakeLine.stands_for c.args.taker c.new.result c.new.ensures stands
