use Rattle.std.proofs.Common.{◌<◌, length, rules}
use Rattle.std.proofs.lemmas.List.{nil_from_length}
use Rattle.std.proofs.lemmas.Result.{on_ok_weaker, IfErr-weaker}
use Rattle.text_lines.specs.Inside.LineFault.{IsFaultAt}
use Rattle.text_lines.specs.Lines.{lines_of, fields_of}
use Rattle.text_lines.specs.Format.{IsReadingFault}
use Rattle.text_lines.proofs.LinesTaken.{read_without_last, read_with_last, IsReadingFault-last}
use Rattle.text_lines.proofs.lines.take_last_line.Goals as goal

pub returns-then-is_empty-clause-read : goal.returns-then-is_empty-clause-read
returns-then-is_empty-clause-read g c = λ start bytes h.
    read_without_last g.T.TakeLine.format start g.T.TakeLine.stands_for c.args.taker.now c.args.count c.args.rest.now bytes h
    (nil_from_length c.args.rest.now (search rules))

pub returns-clause-read : goal.returns-clause-read
returns-clause-read g c = λ start bytes h.
    let some : 0 < length c.args.rest.now = search rules in
    on_ok_weaker c.take_or_skip.result
    (read_with_last g.T.TakeLine.format start g.T.TakeLine.stands_for c.args.taker.now c.args.count c.args.rest.now bytes h c.take_or_skip.new.taker some)
    (c.take_or_skip.ensures.taken h.state h.stands)

pub returns-clause-fault : goal.returns-clause-fault
returns-clause-fault g c = λ start bytes h few.
    let some : 0 < length c.args.rest.now = search rules in
    IfErr-weaker c.take_or_skip.result (IsFaultAt c.take_or_skip.new.count (g.T.TakeLine.format.HasFault h.state (fields_of c.args.rest.now))) (IsReadingFault g.T.TakeLine.format start (lines_of bytes))
    (λ fault has.
    IsReadingFault-last g.T.TakeLine.format start g.T.TakeLine.stands_for c.args.taker.now c.args.count c.args.rest.now bytes h c.take_or_skip.new.count fault c.take_or_skip.ensures.counted some few has)
    (c.take_or_skip.ensures.fault h.state h.stands)
