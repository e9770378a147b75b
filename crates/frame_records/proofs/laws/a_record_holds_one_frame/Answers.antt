use Rattle.frame_records.proofs.HeldFrames.{one_frame}
use Rattle.frame_records.proofs.laws.a_record_holds_one_frame.Goals as goal

pub returns : goal.returns
returns c = one_frame
