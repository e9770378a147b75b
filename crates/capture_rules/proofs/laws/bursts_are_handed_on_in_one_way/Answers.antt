use Rattle.capture_rules.proofs.OneOrder.{one-next, one-order, one-end}
use Rattle.capture_rules.proofs.laws.bursts_are_handed_on_in_one_way.Goals as goal

pub returns-clause-next : goal.returns-clause-next
returns-clause-next g c = λ waiting rest rest' next next'. one-next waiting next next' rest rest'

pub returns-clause-order : goal.returns-clause-order
returns-clause-order g c = λ order left left' came handed handed'. one-order

pub returns-clause-end : goal.returns-clause-end
returns-clause-end g c = λ waiting handed handed'. one-end
