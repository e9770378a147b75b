use Rattle.docsis_wire.proofs.NoFault.{IsCuttable-from_cut}
use Rattle.docsis_wire.proofs.laws.lawful_cut_has_no_fault.Goals as goal

pub returns : goal.returns
returns c = IsCuttable-from_cut
