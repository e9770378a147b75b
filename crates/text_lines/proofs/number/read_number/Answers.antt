use Rattle.std.proofs.Common.{◌+◌, ◌∙◌, arith}
use Rattle.text_lines.proofs.NumberFields.{IsNoNumber-byte, IsNoNumber-past, ReadsDigit-more}
use Rattle.text_lines.proofs.number.read_number.Goals as goal

pub returns-in_default-clause-none : goal.returns-in_default-clause-none
returns-in_default-clause-none c none =
    IsNoNumber-byte c.args.field.now c.args.most c.loop-byte.byte-index c.from.result c.loop-byte-test.true c.from.ensures c.in_default.ensures.value

pub returns-then-number-from-clause-none : goal.returns-then-number-from-clause-none
returns-then-number-from-clause-none c none =
    let more =
    ReadsDigit-more c.args.field.now c.loop-byte.byte-index c.loop-byte.number c.from.result c.from-in-loop-byte.result c.loop-byte-test.true c.loop-byte.invariant.digits
    c.loop-byte.invariant.value c.from.ensures (c.in-Some.ensures.value.0, c.from-in-loop-byte.ensures ∙ c.in-Some.ensures.value.1) in
    IsNoNumber-past c.args.field.now c.args.most (c.loop-byte.byte-index + 1) _ more.value_is (omega arith)

pub loop-byte-preserved : goal.loop-byte-preserved
loop-byte-preserved c =
    let more =
    ReadsDigit-more c.args.field.now c.loop-byte.byte-index c.loop-byte.number c.from.result c.from-in-loop-byte.result c.loop-byte-test.true c.loop-byte.invariant.digits
    c.loop-byte.invariant.value c.from.ensures (c.in-Some.ensures.value.0, c.from-in-loop-byte.ensures ∙ c.in-Some.ensures.value.1) in
    record { digits = more.digits; value = more.value_is; within = omega arith }
