use Rattle.ccf.proofs.SettledCuts.{left_of_settled}
use Rattle.ccf.proofs.laws.unfinished_bytes_are_fill_or_the_front_of_a_frame.Goals as goal

pub returns : goal.returns
returns c = left_of_settled
