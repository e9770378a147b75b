use Rattle.capture.proofs.LawfulFiles.{no_fault_of_blocks}
use Rattle.capture.proofs.laws.whole_blocks_have_no_fault.Goals as goal

pub returns : goal.returns
returns c = no_fault_of_blocks
