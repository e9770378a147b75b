-- A line is handed in, or its least fault is reported.
use Rattle.std.proofs.Common.{◌∷◌, subst}
use Rattle.text_lines.specs.Lines.{words_of}
use Rattle.texts.specs.Trace.Line.{TraceShape, Carries}
use Rattle.texts.proofs.TraceLines.{late_is_least}
use Rattle.texts.proofs.TraceSoFar.{taken_in_place, refused_in_place}
use Rattle.texts.proofs.HandedLines.{late_after_input, not_late, not_begun, taken_with}
use Rattle.texts.proofs.trace.input.TraceInputTakeLine.take_line.Goals as goal

pub returns-then-is_late-clause-fault : goal.returns-then-is_late-clause-fault
returns-then-is_late-clause-fault g c = λ before has.
    let word = c.args.field.now in
    let words = words_of c.args.rest.now in
    late_is_least before.said (word ∷ words)
    (late_after_input g.P.TakeEntries.starts g.P.TakeEntries.has_taken before _ _ _ _ has word words (c.is_late.ensures.0 c.if-is_late.true))

pub add-requires : goal.add-requires
add-requires g c =
    let word = c.args.field.now in
    let words = words_of c.args.rest.now in
    let carries = c.in_ok-line.ensures.carried in
    record {
      carried = (word ∷ words, carries);
      early = not_begun c.args.self.now.setup.shape word words c.in_ok-line.line c.args.self.now.taker c.is_late.result carries c.is_late.ensures.1
          c.if-is_late.false;
    }

pub returns-clause-taken : goal.returns-clause-taken
returns-clause-taken g c = λ before has.
    let word = c.args.field.now in
    let words = words_of c.args.rest.now in
    let early = not_late g.P.TakeEntries.starts g.P.TakeEntries.has_taken before _ _ _ _ has word words c.is_late.result
    c.is_late.ensures.1 c.if-is_late.false in
    let carries = subst (λ (shape : TraceShape). Carries shape (word ∷ words) c.in_ok-line.line) has.setup.shape c.in_ok-line.ensures.carried in
    taken_with before _ _ c.add.result
    (taken_in_place before.said (word ∷ words) early c.in_ok-line.line carries _ c.add.result (c.add.ensures before before.said has))

pub returns-clause-fault : goal.returns-clause-fault
returns-clause-fault g c = λ before has.
    let word = c.args.field.now in
    let words = words_of c.args.rest.now in
    let early = not_late g.P.TakeEntries.starts g.P.TakeEntries.has_taken before _ _ _ _ has word words c.is_late.result
    c.is_late.ensures.1 c.if-is_late.false in
    let carries = subst (λ (shape : TraceShape). Carries shape (word ∷ words) c.in_ok-line.line) has.setup.shape c.in_ok-line.ensures.carried in
    refused_in_place before.said (word ∷ words) early c.in_ok-line.line carries _ c.add.result (c.add.ensures before before.said has)
