use Rattle.loss_rule.proofs.TiedNumbers.{tied-none}
use Rattle.loss_rule.proofs.number_laws.nothing_came_by_numbers.Goals as goal

pub returns : goal.returns
returns c = tied-none
