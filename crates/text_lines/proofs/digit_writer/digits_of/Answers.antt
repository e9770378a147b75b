use Rattle.std.proofs.Common.{arith}
use Rattle.text_lines.proofs.DigitsWritten.{written}
use Rattle.text_lines.proofs.digit_writer.digits_of.Goals as goal

pub returns : goal.returns
returns c =
    written c.args.bytes c.low_digits.result c.low_digits-2.result c.fits-bytes.0 (omega arith) (omega arith) c.fits-bytes.1 c.low_digits.ensures c.low_digits-2.ensures
