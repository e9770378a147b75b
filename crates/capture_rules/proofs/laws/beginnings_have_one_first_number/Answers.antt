use Rattle.capture_rules.proofs.OneNumber.{one-first_number}
use Rattle.capture_rules.proofs.laws.beginnings_have_one_first_number.Goals as goal

pub returns : goal.returns
returns g c = one-first_number
