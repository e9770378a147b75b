use Rattle.docsis_wire.proofs.HeaderWords.{written_back}
use Rattle.docsis_wire.proofs.laws.read_header_is_written_back.Goals as goal

pub returns : goal.returns
returns c = written_back
