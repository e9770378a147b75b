use Rattle.std.proofs.Common.{get_or, subst, sym, arith}
use Rattle.text_lines.specs.declared.digits.TheConstants.{DIGIT_VALUES}
use Rattle.text_lines.specs.Inside.Digits.{IsDigitEntry}
use Rattle.text_lines.proofs.DigitValues.{entry-of}
use Rattle.text_lines.proofs.digits.digit_value.Goals as goal

pub returns : goal.returns
returns c =
    let same = c.from.ensures in
    let small = c.ranges.byte.fits in
    subst (λ i. IsDigitEntry c.args.byte (get_or DIGIT_VALUES i 0)) (sym same) (entry-of c.args.byte (omega arith))
