use Rattle.registrations.proofs.FrameGrammar.{found_by_grammar, grammar_of_found}
use Rattle.registrations.proofs.laws.frames_spell_their_message.Goals as goal

pub returns : goal.returns
returns c = λ frame message bytes. (grammar_of_found frame message bytes, found_by_grammar frame message)
