use Rattle.receiver.proofs.OneReplay.{one-answered, one-items}
use Rattle.receiver.proofs.laws.order_has_one_intake.Goals as goal

pub returns-clause-answers : goal.returns-clause-answers
returns-clause-answers c = λ setup incoming order intake other channel can. one-answered setup incoming order can intake other channel

pub returns-clause-items : goal.returns-clause-items
returns-clause-items c = λ setup incoming order intake other can. one-items setup incoming order can intake other
