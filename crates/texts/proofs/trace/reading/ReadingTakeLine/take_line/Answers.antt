use Rattle.std.proofs.Common.{◌∷◌, subst, arith}
use Rattle.std.proofs.lemmas.Result.{err_from_is_err_and}
use Rattle.text_lines.specs.Lines.{words_of}
use Rattle.text_lines.specs.Inside.LineFault.{IsLineFault}
use Rattle.texts.specs.Trace.Line.{TraceShape}
use Rattle.texts.specs.Inside.TraceLine.{IsLeastFaultByItself}
use Rattle.texts.specs.Trace.Place.{Said}
use Rattle.texts.specs.Inside.Reading.{HasRead}
use Rattle.texts.proofs.TraceLines.{late_by_word, late_is_least}
use Rattle.texts.proofs.TraceSoFar.{count-tags, not_late, carried_as, taken_in_place, refused_in_place, refused_by_itself}
use Rattle.texts.proofs.trace.reading.ReadingTakeLine.take_line.Goals as goal

pub returns-then-is_late-clause-fault : goal.returns-then-is_late-clause-fault
returns-then-is_late-clause-fault c = λ before has.
    let found = c.is_late.ensures.0 c.if-is_late.true in
    let some = found.1 in
    late_is_least before (c.args.field.now ∷ words_of c.args.rest.now)
    (late_by_word before c.args.field.now (words_of c.args.rest.now) found.0 (omega (arith, count-tags before c.args.self.now has, some)))

pub returns-in_err-line-clause-fault : goal.returns-in_err-line-clause-fault
returns-in_err-line-clause-fault c = λ before has.
    let word = c.args.field.now in
    let words = words_of c.args.rest.now in
    let early = not_late before c.args.self.now word words c.is_late.result has c.is_late.ensures.1 c.if-is_late.false in
    let p = err_from_is_err_and c.from_residual.result c.from_residual.ensures.1 in
    rw (p.1, p.2) (refused_by_itself before (word ∷ words) early c.in_err-line.field-0.0
    (subst (λ (shape : TraceShape). IsLineFault (IsLeastFaultByItself shape (word ∷ words)) c.in_err-line.field-0.0) has.setup.shape c.in_err-line.ensures.fault))

pub returns-clause-taken : goal.returns-clause-taken
returns-clause-taken c = λ before has.
    let word = c.args.field.now in
    let words = words_of c.args.rest.now in
    let early = not_late before c.args.self.now word words c.is_late.result has c.is_late.ensures.1 c.if-is_late.false in
    let carries = carried_as c.args.self.now.setup.shape before.shape (word ∷ words) c.in_ok-line.line has.setup.shape c.in_ok-line.ensures.carried in
    taken_in_place before (word ∷ words) early c.in_ok-line.line carries (λ (more : Said). HasRead more c.add.new.self) c.add.result (c.add.ensures before has)

pub returns-clause-fault : goal.returns-clause-fault
returns-clause-fault c = λ before has.
    let word = c.args.field.now in
    let words = words_of c.args.rest.now in
    let early = not_late before c.args.self.now word words c.is_late.result has c.is_late.ensures.1 c.if-is_late.false in
    let carries = carried_as c.args.self.now.setup.shape before.shape (word ∷ words) c.in_ok-line.line has.setup.shape c.in_ok-line.ensures.carried in
    refused_in_place before (word ∷ words) early c.in_ok-line.line carries (λ (more : Said). HasRead more c.add.new.self) c.add.result (c.add.ensures before has)

pub add-requires : goal.add-requires
add-requires c =
    let fields = c.args.field.now ∷ words_of c.args.rest.now in
    (fields, c.in_ok-line.ensures.carried)
