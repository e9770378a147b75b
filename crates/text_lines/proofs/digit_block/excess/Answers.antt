use Rattle.text_lines.proofs.DigitLanes.{excess_is}
use Rattle.text_lines.proofs.digit_block.excess.Goals as goal

pub returns : goal.returns
returns c = excess_is c.args.over 16 c.args.bytes c.ranges.over.fits c.fits-bytes.0 c.fits-bytes.1
