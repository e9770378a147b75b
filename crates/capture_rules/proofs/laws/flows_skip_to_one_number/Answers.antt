use Rattle.capture_rules.proofs.OneNumber.{one-skip}
use Rattle.capture_rules.proofs.laws.flows_skip_to_one_number.Goals as goal

pub returns : goal.returns
returns c = one-skip
