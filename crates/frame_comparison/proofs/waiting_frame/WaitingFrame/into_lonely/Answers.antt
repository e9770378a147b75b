use Rattle.std.proofs.Common.{rules}
use Rattle.frame_comparison.specs.Frames.{shown_front}
use Rattle.frame_comparison.proofs.waiting_frame.WaitingFrame.into_lonely.Goals as goal

pub returns : goal.returns
unfolding shown_front
returns c = search rules
