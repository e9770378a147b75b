use Rattle.capture_summary.proofs.FrameParts.{looked_at}
use Rattle.capture_summary.proofs.laws.parts_of_frames_are_looked_at.Goals as goal

pub returns : goal.returns
returns c = looked_at
