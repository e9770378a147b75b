use Rattle.std.proofs.Common.{◌≡◌, [], ◌∷◌, ◌++◌, subst, sym, rules}
use Rattle.std.proofs.lemmas.Result.{err_from_is_err_and}
use Rattle.text_lines.specs.Lines.{line_feed}
use Rattle.text_lines.specs.LineReading.{Progress, TakesPiece}
use Rattle.text_lines.proofs.PiecesTaken.{TakesPiece-none, TakesPiece-append, TakesPiece-whole, IsPieceFault-first, IsPieceFault-second, IsPieceFault-whole, piece_in_two}
use Rattle.text_lines.proofs.line_reader.LineReader.take_more.Goals as goal

pub returns-in_default-clause-taken : goal.returns-in_default-clause-taken
returns-in_default-clause-taken g c =
    let reader = c.self.inside in
    let before : Progress = record { count = reader.count; unfinished = reader.unfinished.items; fault = reader.fault } in
    rw (← c.self.view_is)
    (TakesPiece-none g.T.TakeLine.format g.T.TakeLine.stands_for c.args.taker.now before c.args.piece.now c.extend_from_slice.new.self.items c.in_default.ensures (search rules))

pub returns-in_err-finish_line-clause-fault : goal.returns-in_err-finish_line-clause-fault
returns-in_err-finish_line-clause-fault g c =
    let end = c.in-Some.end.now in
    let p = err_from_is_err_and c.from_residual-in_err-finish_line.result c.from_residual-in_err-finish_line.ensures.1 in
    rw (p.1, p.2, ← piece_in_two c.args.piece.now end c.in-Some.below.now c.in-Some.ensures)
    (IsPieceFault-first g.T.TakeLine.format g.T.TakeLine.stands_for c.args.taker.now c.args.self.now (end ++ line_feed ∷ []) c.in-Some.below.now c.in_err-finish_line.field-0.0 c.in_err-finish_line.ensures.fault)

pub returns-in_err-rest-clause-fault : goal.returns-in_err-rest-clause-fault
returns-in_err-rest-clause-fault g c =
    let format = g.T.TakeLine.format in
    let stands_for = g.T.TakeLine.stands_for in
    let end = c.in-Some.end.now in
    let below = c.in-Some.below.now in
    let reader = c.self-2.inside in
    let between : Progress = record { count = reader.count; unfinished = reader.unfinished.items; fault = reader.fault } in
    let ended : TakesPiece format stands_for c.args.taker.now c.args.self.now c.finish_line.new.taker between (end ++ line_feed ∷ []) =
    subst (λ progress. TakesPiece format stands_for c.args.taker.now c.args.self.now c.finish_line.new.taker progress (end ++ line_feed ∷ [])) (sym c.self-2.view_is) c.in_ok-finish_line.ensures.taken in
    let empty : reader.unfinished.items ≡ [] = rw (← c.self-2.view_is) at c.in_ok-finish_line.ensures.whole in
    let fault = IsPieceFault-whole format stands_for c.finish_line.new.taker between empty below c.in_err-rest.field-0.0 c.in_err-rest.ensures.fault in
    let p = err_from_is_err_and c.from_residual-in_err-rest.result c.from_residual-in_err-rest.ensures.1 in
    rw (p.1, p.2, ← piece_in_two c.args.piece.now end below c.in-Some.ensures)
    (IsPieceFault-second format stands_for c.args.taker.now c.args.self.now c.finish_line.new.taker between (end ++ line_feed ∷ []) below c.in_err-rest.field-0.0 ended fault)

pub returns-clause-taken : goal.returns-clause-taken
returns-clause-taken g c =
    let format = g.T.TakeLine.format in
    let stands_for = g.T.TakeLine.stands_for in
    let end = c.in-Some.end.now in
    let below = c.in-Some.below.now in
    let reader = c.self-2.inside in
    let between : Progress = record { count = reader.count; unfinished = reader.unfinished.items; fault = reader.fault } in
    let ended : TakesPiece format stands_for c.args.taker.now c.args.self.now c.finish_line.new.taker between (end ++ line_feed ∷ []) =
    subst (λ progress. TakesPiece format stands_for c.args.taker.now c.args.self.now c.finish_line.new.taker progress (end ++ line_feed ∷ [])) (sym c.self-2.view_is) c.in_ok-finish_line.ensures.taken in
    let empty : reader.unfinished.items ≡ [] = rw (← c.self-2.view_is) at c.in_ok-finish_line.ensures.whole in
    let after : Progress = record { count = c.take_whole_lines.new.count; unfinished = c.extend_from_slice-2.new.self.items; fault = reader.fault } in
    let rest = TakesPiece-whole format stands_for c.finish_line.new.taker between empty below c.take_whole_lines.new.taker c.take_whole_lines.new.count c.in_ok-rest.rest.now
    c.extend_from_slice-2.new.self.items (search rules) c.in_ok-rest.ensures.taken in
    rw (← piece_in_two c.args.piece.now end below c.in-Some.ensures)
    (TakesPiece-append format stands_for c.args.taker.now c.args.self.now c.finish_line.new.taker c.take_whole_lines.new.taker between after (end ++ line_feed ∷ []) below ended rest)
