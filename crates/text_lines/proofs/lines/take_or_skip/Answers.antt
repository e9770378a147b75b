use Rattle.std.proofs.Common.{◌≡◌, ◌∷◌, Result, Ok, Err}
use Rattle.std.specs.Prelude.{OnOk, is_ok}
use Rattle.std.proofs.lemmas.Result.{on_ok_weaker}
use Rattle.text_lines.specs.Lines.{words_of}
use Rattle.text_lines.specs.Format.{no_lines, skipped}
use Rattle.text_lines.proofs.LinesTaken.{taken_line}
use Rattle.text_lines.proofs.lines.take_or_skip.Goals as goal

-- what holds where a call succeeds holds where it does under another name of its fault
on_ok_of_other : {E F : Type 0} (P : Type 0) (r : Result (Unit {0}) E) (s : Result (Unit {0}) F) → is_ok s ≡ is_ok r → OnOk r P → OnOk s P
on_ok_of_other P (Ok done) (Ok same) is holds = holds
on_ok_of_other P (Err fault) (Ok same) is holds = cc
on_ok_of_other P r (Err fault) is holds = tt

pub returns-in_default-clause-taken : goal.returns-in_default-clause-taken
returns-in_default-clause-taken g c = λ before stands. (before, skipped c.in_default.ensures no_lines, stands)

pub returns-clause-taken : goal.returns-clause-taken
returns-clause-taken g c = λ before stands.
    on_ok_of_other _ c.take_line.result c.map_err.result c.map_err.ensures.variant
    (on_ok_weaker c.take_line.result
    (taken_line g.T.TakeLine.format (λ state. g.T.TakeLine.stands_for state c.take_line.new.self) before c.args.line.now (c.in-Some.field.now ∷ words_of c.in-Some.rest.now) c.in-Some.ensures)
    (c.take_line.ensures.taken before stands))
