use Rattle.std.proofs.Common.{◌≡◌, [], ◌∷◌, ◌++◌, sym, ap, rules, Result, Ok, Err}
use Rattle.std.specs.Prelude.{OnOk, IfErr}
use Rattle.std.proofs.lemmas.List.{nil_from_length}
use Rattle.std.proofs.lemmas.Result.{on_ok_weaker, IfErr-weaker, err_from_is_err_and}
use Rattle.text_lines.specs.declared.fault.ParseFault.{ParseFault}
use Rattle.text_lines.specs.Inside.LineFault.{IsFaultAt}
use Rattle.text_lines.specs.Lines.{line_feed, fields_of}
use Rattle.text_lines.specs.Format.{IsRead}
use Rattle.text_lines.specs.LineReading.{Progress, IsPieceFault}
use Rattle.text_lines.proofs.PiecesTaken.{TakesPiece-end, IsPieceFault-end}
use Rattle.text_lines.proofs.line_reader.LineReader.finish_line.Goals as goal

-- what a call answers of each state
each_on_ok : {State : Type 0} (r : Result (Unit {0}) ParseFault) (P Q : State → Type 0) → ((before : State) → P before → OnOk r (Q before)) → OnOk r ((before : State) → P before → Q before)
each_on_ok (Ok done) P Q each = each
each_on_ok (Err fault) P Q each = tt

-- what it reports of each
each_if_err : {State : Type 0} (r : Result (Unit {0}) ParseFault) (P : State → Type 0) (Q : State → ParseFault → Type 0) → ((before : State) → P before → IfErr r (Q before))
    → IfErr r (λ fault. (before : State) → P before → Q before fault)
each_if_err (Ok done) P Q each = tt
each_if_err (Err fault) P Q each = each

pub returns-then-is_empty-clause-taken : goal.returns-then-is_empty-clause-taken
returns-then-is_empty-clause-taken g c =
    let format = g.T.TakeLine.format in
    let stands_for = g.T.TakeLine.stands_for in
    let reader = c.self.inside in
    let before : Progress = record { count = reader.count; unfinished = reader.unfinished.items; fault = reader.fault } in
    let end = c.args.end.now in
    let empty : reader.unfinished.items ≡ [] = nil_from_length reader.unfinished.items (search rules) in
    let line : end ≡ reader.unfinished.items ++ end = sym (ap (λ front. front ++ end) empty) in
    rw (← c.self.view_is)
    (on_ok_weaker c.take_or_skip.result
    (TakesPiece-end format stands_for c.args.taker.now before end end c.requires line c.take_or_skip.new.count c.take_or_skip.ensures.counted c.take_or_skip.new.taker reader.unfinished.items empty)
    (each_on_ok c.take_or_skip.result (λ state. stands_for state c.args.taker.now) (λ state. (after : g.T.TakeLine.State) × IsRead format state (end ∷ []) after × stands_for after c.take_or_skip.new.taker) c.take_or_skip.ensures.taken))

pub returns-then-is_empty-clause-fault : goal.returns-then-is_empty-clause-fault
returns-then-is_empty-clause-fault g c =
    let format = g.T.TakeLine.format in
    let stands_for = g.T.TakeLine.stands_for in
    let reader = c.self.inside in
    let before : Progress = record { count = reader.count; unfinished = reader.unfinished.items; fault = reader.fault } in
    let end = c.args.end.now in
    let empty : reader.unfinished.items ≡ [] = nil_from_length reader.unfinished.items (search rules) in
    let line : end ≡ reader.unfinished.items ++ end = sym (ap (λ front. front ++ end) empty) in
    rw (← c.self.view_is)
    (IfErr-weaker c.take_or_skip.result _ (IsPieceFault format stands_for c.args.taker.now before (end ++ line_feed ∷ []))
    (IsPieceFault-end format stands_for c.args.taker.now before end end c.requires line c.take_or_skip.new.count c.take_or_skip.ensures.counted)
    (each_if_err c.take_or_skip.result (λ state. stands_for state c.args.taker.now) (λ state. IsFaultAt c.take_or_skip.new.count (format.HasFault state (fields_of end))) c.take_or_skip.ensures.fault))

pub returns-in_err-take_or_skip-clause-fault : goal.returns-in_err-take_or_skip-clause-fault
returns-in_err-take_or_skip-clause-fault g c =
    let reader = c.self.inside in
    let before : Progress = record { count = reader.count; unfinished = reader.unfinished.items; fault = reader.fault } in
    let p = err_from_is_err_and c.from_residual-in_err-take_or_skip.result c.from_residual-in_err-take_or_skip.ensures.1 in
    rw (p.1, p.2, ← c.self.view_is)
    (IsPieceFault-end g.T.TakeLine.format g.T.TakeLine.stands_for c.args.taker.now before c.args.end.now c.deref.result.now c.requires (search rules) c.take_or_skip-2.new.count c.in_err-take_or_skip.ensures.counted
    c.in_err-take_or_skip.field-0.0 c.in_err-take_or_skip.ensures.fault)

pub returns-clause-taken : goal.returns-clause-taken
returns-clause-taken g c =
    let reader = c.self.inside in
    let before : Progress = record { count = reader.count; unfinished = reader.unfinished.items; fault = reader.fault } in
    rw (← c.self.view_is)
    (TakesPiece-end g.T.TakeLine.format g.T.TakeLine.stands_for c.args.taker.now before c.args.end.now c.deref.result.now c.requires (search rules) c.take_or_skip-2.new.count c.in_ok-take_or_skip.ensures.counted
    c.take_or_skip-2.new.taker c.clear.new.self.items c.clear.ensures.items c.in_ok-take_or_skip.ensures.taken)
