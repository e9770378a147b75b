use Rattle.text_lines.proofs.DigitsLookedAt.{marks_are}
use Rattle.text_lines.proofs.digit_block.marks_of_digits.Goals as goal

pub returns : goal.returns
returns c = let all = marks_are 16 c.args.digits c.fits-digits.0 c.fits-digits.1 in cc
