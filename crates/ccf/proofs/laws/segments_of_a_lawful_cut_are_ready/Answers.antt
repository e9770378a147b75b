use Rattle.docsis_wire.proofs.Pointing.{ready_of_cut}
use Rattle.ccf.proofs.laws.segments_of_a_lawful_cut_are_ready.Goals as goal

pub returns : goal.returns
returns c = ready_of_cut
