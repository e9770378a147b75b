use Rattle.loss_rule.proofs.TiedNumbers.{tied-noted}
use Rattle.loss_rule.proofs.number_laws.noting_by_numbers_is_noting_by_indexes.Goals as goal

pub returns : goal.returns
returns c = tied-noted
