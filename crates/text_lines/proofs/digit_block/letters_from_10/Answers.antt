use Rattle.text_lines.proofs.DigitLanes.{letters_are}
use Rattle.text_lines.proofs.digit_block.letters_from_10.Goals as goal

pub returns : goal.returns
returns c = let all = letters_are 16 c.args.digits c.fits-digits.0 in cc
