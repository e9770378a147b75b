use Rattle.registrations.proofs.InTurn.{joined_in_turn}
use Rattle.registrations.proofs.laws.parts_in_turn_are_joined.Goals as goal

pub returns : goal.returns
returns c = joined_in_turn
