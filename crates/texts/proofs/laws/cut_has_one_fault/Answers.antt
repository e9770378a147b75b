use Rattle.texts.proofs.OneCutFault.{one_fault}
use Rattle.texts.proofs.laws.cut_has_one_fault.Goals as goal
use Rattle.texts.specs.AnyHeader.{any_header}

pub returns : goal.returns
returns c = one_fault (c.cut_has_one_fault.ensures any_header)
