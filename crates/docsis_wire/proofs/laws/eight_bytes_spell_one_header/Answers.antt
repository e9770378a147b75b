use Rattle.docsis_wire.proofs.HeaderWords.{header_bytes-inj}
use Rattle.docsis_wire.proofs.laws.eight_bytes_spell_one_header.Goals as goal

pub returns : goal.returns
returns c = header_bytes-inj
