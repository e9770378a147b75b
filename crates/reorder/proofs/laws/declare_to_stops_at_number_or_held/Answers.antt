use Rattle.reorder.proofs.DeclaredCount.{declared_count-le, declared_count-le_held, declared_count-reaches, declared_count-none}
use Rattle.reorder.proofs.laws.declare_to_stops_at_number_or_held.Goals as goal

pub returns-clause-up_to_number : goal.returns-clause-up_to_number
returns-clause-up_to_number g c = λ w number lawful. declared_count-le w number lawful

pub returns-clause-up_to_held : goal.returns-clause-up_to_held
returns-clause-up_to_held g c = λ w number q lawful held. declared_count-le_held w number lawful q held

pub returns-clause-reached : goal.returns-clause-reached
returns-clause-reached g c = λ w number lawful some near held. declared_count-reaches w number lawful some near held

pub returns-clause-none : goal.returns-clause-none
returns-clause-none g c = λ w number none. declared_count-none w number none
