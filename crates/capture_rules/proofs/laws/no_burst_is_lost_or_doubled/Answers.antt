use Rattle.capture_rules.proofs.NoneLost.{all-there, none-left}
use Rattle.capture_rules.proofs.laws.no_burst_is_lost_or_doubled.Goals as goal

pub returns-clause-order : goal.returns-clause-order
returns-clause-order g c = λ order left came handed. all-there

pub returns-clause-end : goal.returns-clause-end
returns-clause-end g c = λ waiting handed. none-left
