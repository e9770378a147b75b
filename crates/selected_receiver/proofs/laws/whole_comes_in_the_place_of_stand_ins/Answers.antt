use Rattle.selected_receiver.proofs.InTheirPlace.{answers-for, inputs-for}
use Rattle.selected_receiver.proofs.laws.whole_comes_in_the_place_of_stand_ins.Goals as goal

pub returns-clause-answered : goal.returns-clause-answered
returns-clause-answered c = answers-for

pub returns-clause-inputs : goal.returns-clause-inputs
returns-clause-inputs c = inputs-for
