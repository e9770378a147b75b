use Rattle.loss_rule.proofs.TiedSkips.{tied-sliding}
use Rattle.loss_rule.proofs.number_laws.number_slid_to_is_of_the_index_slid_to.Goals as goal

pub returns : goal.returns
returns c = tied-sliding
