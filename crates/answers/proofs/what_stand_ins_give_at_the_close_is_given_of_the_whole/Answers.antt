use Rattle.answers.proofs.ClosedBeside.{closes_beside}
use Rattle.answers.proofs.what_stand_ins_give_at_the_close_is_given_of_the_whole.Goals as goal

pub returns : goal.returns
returns c = closes_beside
