use Rattle.texts.proofs.OneJoinFault.{one_fault}
use Rattle.texts.proofs.laws.join_has_one_fault.Goals as goal

pub returns : goal.returns
returns c = one_fault c.eight_bytes_spell_one_header.ensures
