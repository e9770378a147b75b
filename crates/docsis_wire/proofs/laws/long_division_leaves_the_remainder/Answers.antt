use Rattle.docsis_wire.proofs.Quotients.{remainder_exactly}
use Rattle.docsis_wire.proofs.laws.long_division_leaves_the_remainder.Goals as goal

pub returns : goal.returns
returns c = remainder_exactly
