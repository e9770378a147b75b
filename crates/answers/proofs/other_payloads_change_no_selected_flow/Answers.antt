use Rattle.answers.proofs.OtherOutcomes.{other_intake, outcomes-agree}
use Rattle.answers.proofs.OtherSide.{differs_back}
use Rattle.answers.proofs.other_payloads_change_no_selected_flow.Goals as goal

pub returns-clause-either_side : goal.returns-clause-either_side
returns-clause-either_side c = differs_back

pub returns-clause-intake : goal.returns-clause-intake
returns-clause-intake c = λ selected setup incoming other order can differs intake. (other_intake selected setup incoming other order intake can differs).taken

pub returns-clause-agree : goal.returns-clause-agree
returns-clause-agree c = outcomes-agree
