use Rattle.docsis_wire.proofs.OneCut.{cut-once}
use Rattle.docsis_wire.proofs.laws.pieces_make_one_cut.Goals as goal

pub returns : goal.returns
returns c = cut-once
