use Rattle.registrations.proofs.MessageGrammar.{management_by_grammar, grammar_of_management}
use Rattle.registrations.proofs.laws.messages_spell_their_parts.Goals as goal

pub returns : goal.returns
returns c = λ message parts bytes. (grammar_of_management message parts bytes, management_by_grammar message parts)
