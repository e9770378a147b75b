use Rattle.text_lines.proofs.DigitLanes.{raised_is}
use Rattle.text_lines.proofs.digit_block.raised.Goals as goal

pub returns : goal.returns
returns c = raised_is c.args.by 16 c.args.bytes c.ranges.by.fits c.fits-bytes.0 c.fits-bytes.1
