use Rattle.std.proofs.Common.{rules}
use Rattle.text_lines.specs.LineReading.{Progress}
use Rattle.text_lines.proofs.PiecesTaken.{TakesPiece-none}
use Rattle.text_lines.proofs.line_reader.LineReader.take_or_hold.Goals as goal

pub returns-in_default-clause-taken : goal.returns-in_default-clause-taken
returns-in_default-clause-taken g c =
    let reader = c.self.inside in
    let before : Progress = record { count = reader.count; unfinished = reader.unfinished.items; fault = reader.fault } in
    rw (← c.self.view_is)
    (TakesPiece-none g.T.TakeLine.format g.T.TakeLine.stands_for c.args.taker.now before c.args.part.now c.extend_from_slice.new.self.items c.in_default.ensures (search rules))

pub returns-clause-taken : goal.returns-clause-taken
returns-clause-taken g c = rw c.in-Some.ensures.spelled c.finish_line.ensures.taken

pub returns-clause-fault : goal.returns-clause-fault
returns-clause-fault g c = rw c.in-Some.ensures.spelled c.finish_line.ensures.fault
