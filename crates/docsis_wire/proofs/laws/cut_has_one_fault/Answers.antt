use Rattle.docsis_wire.proofs.OneFault.{one_fault}
use Rattle.docsis_wire.proofs.laws.cut_has_one_fault.Goals as goal

pub returns : goal.returns
returns c = one_fault
