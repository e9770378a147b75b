use Rattle.flow_core.proofs.Nearness.{numbered_of_cut, near_of_short}
use Rattle.flow_core.proofs.laws.events_of_a_short_cut_are_near.Goals as goal

pub returns-clause-unskipped : goal.returns-clause-unskipped
returns-clause-unskipped c = λ check frames chunks first fill width segments events cut short of_cut none.
    near_of_short first width segments events (numbered_of_cut check frames chunks first fill segments cut) short of_cut
    (λ before behind number e. absurd (none before behind number e))

pub returns-clause-skipped : goal.returns-clause-skipped
returns-clause-skipped c = λ check frames chunks first fill width segments events cut.
    near_of_short first width segments events (numbered_of_cut check frames chunks first fill segments cut)
