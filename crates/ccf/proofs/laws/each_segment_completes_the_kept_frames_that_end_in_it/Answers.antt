use Rattle.ccf.proofs.SettledCuts.{completed_by_feed}
use Rattle.ccf.proofs.laws.each_segment_completes_the_kept_frames_that_end_in_it.Goals as goal

pub returns : goal.returns
returns c = completed_by_feed
