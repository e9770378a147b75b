use Rattle.text_lines.proofs.DigitLanes.{test_is}
use Rattle.text_lines.proofs.digit_block.are_all_values.Goals as goal

pub returns : goal.returns
returns c = test_is c.args.high c.args.low c.fits-high.0 c.fits-low.0
