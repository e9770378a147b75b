use Rattle.text_lines.proofs.DigitLanes.{lesser_is}
use Rattle.text_lines.proofs.digit_block.lesser.Goals as goal

pub returns : goal.returns
returns c = lesser_is c.args.one c.args.other
