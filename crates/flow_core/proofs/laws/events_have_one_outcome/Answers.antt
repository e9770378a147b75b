use Rattle.flow_core.proofs.Outcome.{expected-unique}
use Rattle.flow_core.proofs.OneFates.{after-exists, after-once}
use Rattle.flow_core.proofs.laws.events_have_one_outcome.Goals as goal

pub returns-clause-some : goal.returns-clause-some
returns-clause-some c = λ first width events positive. after-exists first width events

pub returns-clause-only : goal.returns-clause-only
returns-clause-only c = after-once

pub returns-clause-expected : goal.returns-clause-expected
returns-clause-expected c = expected-unique
