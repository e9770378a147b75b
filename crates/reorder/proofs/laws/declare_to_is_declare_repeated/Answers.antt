use Rattle.reorder.specs.Verdicts.{declared_count}
use Rattle.reorder.proofs.DeclaredCount.{AreLost-declared_count, AreLost-LosesInTurn, declared_count-ends}
use Rattle.reorder.proofs.laws.declare_to_is_declare_repeated.Goals as goal

pub returns-clause-repeated : goal.returns-clause-repeated
returns-clause-repeated g c = λ w number lawful. AreLost-LosesInTurn w (declared_count w number) lawful.expected_in_range (AreLost-declared_count w number lawful)

pub returns-clause-ends : goal.returns-clause-ends
returns-clause-ends g c = λ w number lawful in_range some near. declared_count-ends w number lawful in_range some near
