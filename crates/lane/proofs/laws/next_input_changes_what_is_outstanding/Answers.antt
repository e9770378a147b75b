use Rattle.lane.proofs.OutstandingGrants.{accepted, spent, other-numbers, other-answers}
use Rattle.lane.proofs.laws.next_input_changes_what_is_outstanding.Goals as goal

pub returns-clause-accepted : goal.returns-clause-accepted
returns-clause-accepted c = accepted

pub returns-clause-spent : goal.returns-clause-spent
returns-clause-spent c = spent

pub returns-clause-other_numbers : goal.returns-clause-other_numbers
returns-clause-other_numbers c = other-numbers

pub returns-clause-other_answers : goal.returns-clause-other_answers
returns-clause-other_answers c = other-answers
