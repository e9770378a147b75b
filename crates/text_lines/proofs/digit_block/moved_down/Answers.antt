use Rattle.std.proofs.lemmas.Simd.{zip2_splat}
use Rattle.text_lines.proofs.DigitLanes.{less}
use Rattle.text_lines.proofs.digit_block.moved_down.Goals as goal

pub returns : goal.returns
returns c = zip2_splat less c.args.bytes 16 c.args.by c.fits-bytes.0
