use Rattle.frame_records.proofs.FirstIds.{origin_named}
use Rattle.frame_records.proofs.HeldFrames.{written_packet_held}
use Rattle.frame_records.proofs.laws.written_frames_name_their_burst.Goals as goal

pub returns-clause-packet : goal.returns-clause-packet
returns-clause-packet c = written_packet_held

pub returns-clause-burst : goal.returns-clause-burst
returns-clause-burst c = λ origin frame. origin_named origin
