use Rattle.docsis_wire.proofs.HeaderWords.{read_back}
use Rattle.docsis_wire.proofs.laws.written_header_is_read_back.Goals as goal

pub returns : goal.returns
returns c = read_back
