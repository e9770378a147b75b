use Rattle.flow_core.proofs.EmptyFlows.{gaps-nothing, stands-empty, outcome-empty}
use Rattle.flow_core.proofs.laws.decisions_about_an_empty_flow_change_nothing.Goals as goal

pub returns-clause-fates : goal.returns-clause-fates
returns-clause-fates c = λ first width events answers fates after unarrived unskipped. (gaps-nothing first width events answers fates after unarrived unskipped).0

pub returns-clause-stands : goal.returns-clause-stands
returns-clause-stands c = stands-empty

pub returns-clause-outcome : goal.returns-clause-outcome
returns-clause-outcome c = outcome-empty
