use Rattle.std.proofs.lemmas.Result.{err_from_is_err_and}
use Rattle.text_lines.proofs.LinesTaken.{HasWalked-none, HasWalked-line, HasWalked-all, HasWalked-fault}
use Rattle.text_lines.proofs.lines.take_whole_lines.Goals as goal

pub loop-line-init : goal.loop-line-init
loop-line-init g c = HasWalked-none g.T.TakeLine.format g.T.TakeLine.stands_for c.args.taker.now c.args.count.now c.args.text.now

pub loop-line-preserved : goal.loop-line-preserved
loop-line-preserved g c =
    HasWalked-line g.T.TakeLine.format g.T.TakeLine.stands_for c.args.taker.now c.args.count.now c.args.text.now c.loop-line.taker c.loop-line.count c.loop-line.rest.now c.loop-line.invariant
    c.in-Some.line.now c.in-Some.below.now c.take_or_skip.new.taker c.take_or_skip.new.count c.in-Some.ensures c.in_ok-take_or_skip.ensures.counted c.in_ok-take_or_skip.ensures.taken

pub returns-in_err-take_or_skip-clause-fault : goal.returns-in_err-take_or_skip-clause-fault
returns-in_err-take_or_skip-clause-fault g c = λ start bytes before few.
    let p = err_from_is_err_and c.from_residual.result c.from_residual.ensures.1 in
    rw (p.1, p.2)
    (HasWalked-fault g.T.TakeLine.format g.T.TakeLine.stands_for c.args.taker.now c.args.count.now c.args.text.now c.loop-line.taker c.loop-line.count c.loop-line.rest.now c.loop-line.invariant
    c.in-Some.line.now c.in-Some.below.now c.take_or_skip.new.count c.in_err-take_or_skip.field-0.0 c.in-Some.ensures c.in_err-take_or_skip.ensures.counted c.in_err-take_or_skip.ensures.fault start bytes before few)

pub returns-clause-taken : goal.returns-clause-taken
returns-clause-taken g c = λ start bytes before.
    HasWalked-all g.T.TakeLine.format g.T.TakeLine.stands_for c.args.taker.now c.args.count.now c.args.text.now c.loop-line.taker c.loop-line.count c.loop-line.rest.now c.loop-line.invariant
    c.in_default.ensures start bytes before
