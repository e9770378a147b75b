use Rattle.std.proofs.lemmas.Result.{err_from_is_err_and}
use Rattle.text_lines.proofs.BytesTaken.{bytes-fault}
use Rattle.text_lines.proofs.line_input.LineInput.finish.Goals as goal

pub returns-in_err-finish-clause-fault : goal.returns-in_err-finish-clause-fault
returns-in_err-finish-clause-fault g c = λ start bytes was few.
    let p = err_from_is_err_and c.from_residual.result c.from_residual.ensures.1 in
    let fault = bytes-fault g.T.TakeLine.format start g.T.TakeLine.stands_for c.args.self.taker c.args.self.reader bytes c.finish.result
    (c.finish.ensures.fault start bytes) c.finish.ensures.again was few in
    rw (p.1, p.2) (rw c.in_err-finish.was at fault)
