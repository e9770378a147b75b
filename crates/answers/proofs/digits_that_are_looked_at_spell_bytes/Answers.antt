use Rattle.text_lines.proofs.FrontDigits.{front_spells}
use Rattle.answers.proofs.SpelledDigits.{digits_spell}
use Rattle.answers.proofs.digits_that_are_looked_at_spell_bytes.Goals as goal

pub returns-clause-some : goal.returns-clause-some
returns-clause-some c = digits_spell

pub returns-clause-front : goal.returns-clause-front
returns-clause-front c = front_spells
