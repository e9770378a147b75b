use Rattle.frame_comparison.proofs.InStep.{none-given_up, none-finished}
use Rattle.frame_comparison.proofs.laws.equal_sequences_have_nothing_lonely.Goals as goal

pub returns-clause-while_they_come : goal.returns-clause-while_they_come
returns-clause-while_they_come c = none-given_up

pub returns-clause-at_the_end : goal.returns-clause-at_the_end
returns-clause-at_the_end c = none-finished
