use Rattle.capture_map.proofs.OneMap.{one_outcome}
use Rattle.capture_map.proofs.laws.lines_come_to_one_thing.Goals as goal

pub returns : goal.returns
returns c = one_outcome
