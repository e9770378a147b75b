use Rattle.std.proofs.Common.{rules}
use Rattle.frame_comparison.specs.Frames.{shown_front}
use Rattle.frame_comparison.proofs.coming_frame.kept_bytes.Goals as goal

pub returns-else-frame-le-LONGEST_FRAME : goal.returns-else-frame-le-LONGEST_FRAME
unfolding shown_front
returns-else-frame-le-LONGEST_FRAME c = search rules
