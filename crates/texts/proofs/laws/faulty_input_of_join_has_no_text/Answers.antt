use Rattle.texts.proofs.OneJoinFault.{read_without_fault}
use Rattle.texts.proofs.laws.faulty_input_of_join_has_no_text.Goals as goal

pub returns : goal.returns
returns c input text fault a h = read_without_fault c.eight_bytes_spell_one_header.ensures input a.segments fault a.read h
