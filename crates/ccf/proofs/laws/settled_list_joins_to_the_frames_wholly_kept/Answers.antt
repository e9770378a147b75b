use Rattle.ccf.proofs.SettledCuts.{frames_of_settled}
use Rattle.ccf.proofs.laws.settled_list_joins_to_the_frames_wholly_kept.Goals as goal

pub returns : goal.returns
returns c = frames_of_settled
