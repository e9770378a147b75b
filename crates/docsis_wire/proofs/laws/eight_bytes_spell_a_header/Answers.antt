use Rattle.docsis_wire.proofs.HeaderWords.{header_of-bytes}
use Rattle.docsis_wire.proofs.laws.eight_bytes_spell_a_header.Goals as goal

pub returns : goal.returns
returns c = header_of-bytes
