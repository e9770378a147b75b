use Rattle.std.proofs.Common.{◌+◌, ◌<◌, ◌^◌, [], length, append-nil, arith}
use Rattle.std.proofs.lemmas.Result.{err_from_is_err_and}
use Rattle.text_lines.proofs.LinesTaken.{AreTaken-none}
use Rattle.text_lines.proofs.lines.take_lines.Goals as goal

pub returns-in_err-rest-clause-fault : goal.returns-in_err-rest-clause-fault
returns-in_err-rest-clause-fault g c = λ start stands.
    let p = err_from_is_err_and c.from_residual.result c.from_residual.ensures.1 in
    let none = AreTaken-none g.T.TakeLine.format start g.T.TakeLine.stands_for c.args.taker.now stands in
    let few : 0 + length c.args.input.now < 2 ^ 64 = omega arith in
    let fault = c.in_err-rest.ensures.fault start [] none few [] in
    rw (p.1, p.2) (rw append-nil at fault)

pub returns-clause-read : goal.returns-clause-read
returns-clause-read g c = λ start stands.
    let none = AreTaken-none g.T.TakeLine.format start g.T.TakeLine.stands_for c.args.taker.now stands in
    c.take_last_line.ensures.read start c.args.input.now (c.in_ok-rest.ensures.taken start [] none)

pub returns-clause-fault : goal.returns-clause-fault
returns-clause-fault g c = λ start stands.
    let none = AreTaken-none g.T.TakeLine.format start g.T.TakeLine.stands_for c.args.taker.now stands in
    c.take_last_line.ensures.fault start c.args.input.now (c.in_ok-rest.ensures.taken start [] none) (omega arith)
