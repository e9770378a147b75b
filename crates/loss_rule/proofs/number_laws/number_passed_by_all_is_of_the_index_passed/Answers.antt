use Rattle.loss_rule.proofs.TiedSkips.{tied-passing}
use Rattle.loss_rule.proofs.number_laws.number_passed_by_all_is_of_the_index_passed.Goals as goal

pub returns : goal.returns
returns c = λ flow x lasts distances passed skips tied. tied-passing flow x lasts distances tied passed skips
