use Rattle.text_lines.proofs.DigitBlocks.{split_is}
use Rattle.text_lines.proofs.digit_block.split_pairs.Goals as goal

pub returns : goal.returns
returns c = split_is c.args.digits.now c.told-digits
