use Rattle.capture.proofs.OneBlockReading.{all_told}
use Rattle.capture.proofs.laws.whole_blocks_are_given.Goals as goal

pub returns : goal.returns
returns c = all_told
