use Rattle.flow_core.proofs.Outcome.{sound-after}
use Rattle.flow_core.proofs.LaterKept.{later-after, lost-lawfully}
use Rattle.flow_core.proofs.laws.lost_indexes_lie_before_the_expected_one.Goals as goal

pub returns-clause-before : goal.returns-clause-before
returns-clause-before c = λ first width x i events answers fates is expected lost. (sound-after first width events answers fates x is expected).lost_below i lost

pub returns-clause-later_kept : goal.returns-clause-later_kept
returns-clause-later_kept c = λ first width i events answers fates is none lost. later-after first width events answers fates is none i lost

pub returns-clause-skipped : goal.returns-clause-skipped
returns-clause-skipped c = λ first width i events answers fates is. lost-lawfully first width events answers fates is i
