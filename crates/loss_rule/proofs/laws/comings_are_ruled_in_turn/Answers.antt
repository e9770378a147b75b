use Rattle.loss_rule.proofs.RuledTurns.{rules-split, rules-in_turn}
use Rattle.loss_rule.proofs.laws.comings_are_ruled_in_turn.Goals as goal

pub returns : goal.returns
returns c = λ rule flow lasts noted fates after comings more events. (
  rules-split rule flow lasts fates comings more events noted after,
  rules-in_turn rule flow lasts fates comings more events noted after,
)
