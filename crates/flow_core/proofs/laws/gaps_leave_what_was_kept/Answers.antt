use Rattle.flow_core.proofs.Closing.{gaps-kept}
use Rattle.flow_core.proofs.laws.gaps_leave_what_was_kept.Goals as goal

pub returns : goal.returns
returns c = gaps-kept
