use Rattle.ccf.proofs.NoLoss.{frames_without_loss}
use Rattle.ccf.proofs.laws.whole_cut_joins_to_the_frames_within_it.Goals as goal

pub returns : goal.returns
returns c = frames_without_loss
