use Rattle.lane.proofs.OutstandingGrants.{outstanding-numbers}
use Rattle.lane.proofs.laws.outstanding_numbers_are_counted.Goals as goal

pub returns : goal.returns
returns c = outstanding-numbers
