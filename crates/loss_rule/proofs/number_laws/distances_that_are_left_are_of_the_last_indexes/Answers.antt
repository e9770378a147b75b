use Rattle.loss_rule.proofs.TiedNumbers.{tied-on}
use Rattle.loss_rule.proofs.number_laws.distances_that_are_left_are_of_the_last_indexes.Goals as goal

pub returns : goal.returns
returns c = tied-on
