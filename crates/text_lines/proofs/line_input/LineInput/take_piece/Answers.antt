use Rattle.text_lines.proofs.BytesTaken.{bytes-more}
use Rattle.text_lines.proofs.line_input.LineInput.take_piece.Goals as goal

pub returns : goal.returns
returns g c = λ start bytes was.
    let took = c.take_piece.ensures in
    bytes-more g.T.TakeLine.format start g.T.TakeLine.stands_for c.args.self.now.taker c.take_piece.new.taker c.args.self.now.reader c.take_piece.new.self bytes c.args.piece.now
    c.take_piece.result took.taken took.fault took.kept took.again was
