use Rattle.reorder.proofs.Passing.{passed_is_late, passed_lies_ahead}
use Rattle.reorder.proofs.laws.passed_is_late.Goals as goal

pub returns-clause-late : goal.returns-clause-late
returns-clause-late g c = λ w calls passed item verdict lawful before few given. passed_is_late w calls passed lawful item verdict before few given

pub returns-clause-ahead_again : goal.returns-clause-ahead_again
returns-clause-ahead_again g c = λ w calls passed item lawful enough few given. passed_lies_ahead w calls passed lawful item enough few given
