use Rattle.receiver.proofs.OrderPlaces.{lawful-faultless}
use Rattle.receiver.proofs.laws.lawful_order_has_no_fault.Goals as goal

pub returns : goal.returns
returns c = λ lengths order k lawful. lawful-faultless lengths order lawful k
