use Rattle.frame_records.proofs.HeldFrames.{written_held}
use Rattle.frame_records.proofs.laws.written_frames_are_read_back.Goals as goal

pub returns : goal.returns
returns c =
    let found = c.origins_are_found.ensures in
    λ time origin frame channel sid.
    written_held time origin frame (found.channel_number origin.channel channel) (found.sid_number origin.sid sid)
