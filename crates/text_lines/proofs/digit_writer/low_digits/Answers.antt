use Rattle.text_lines.proofs.DigitsWritten.{look_up_fits, looked_up}
use Rattle.text_lines.proofs.digit_writer.low_digits.Goals as goal

pub swizzle : goal.swizzle
swizzle c = look_up_fits c.args.bytes c.fits-bytes.0

pub returns : goal.returns
returns c = looked_up c.args.bytes c.fits-bytes.0 c.fits-bytes.1
