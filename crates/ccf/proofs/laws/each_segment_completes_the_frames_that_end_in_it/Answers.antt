use Rattle.ccf.proofs.NoLoss.{completed_without_loss}
use Rattle.ccf.proofs.laws.each_segment_completes_the_frames_that_end_in_it.Goals as goal

pub returns : goal.returns
returns c = completed_without_loss
