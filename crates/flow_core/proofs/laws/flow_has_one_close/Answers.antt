use Rattle.flow_core.proofs.Closing.{losses-fewer, some-close, only-close, closed-answers}
use Rattle.flow_core.proofs.laws.flow_has_one_close.Goals as goal

pub returns-clause-some : goal.returns-clause-some
returns-clause-some c = some-close

pub returns-clause-only : goal.returns-clause-only
returns-clause-only c = only-close

pub returns-clause-ends : goal.returns-clause-ends
returns-clause-ends c = losses-fewer

pub returns-clause-closed : goal.returns-clause-closed
returns-clause-closed c = closed-answers
