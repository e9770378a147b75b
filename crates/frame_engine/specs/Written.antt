-- What is written of what came of a capture's bursts.
use Rattle.std.specs.Prelude.{ℕ, ◌==◌, nat_le, Option, Some, None, List, [], length, find, filter, flat_map, unwrap_or, option_map, if◌then◌else◌}
use Rattle.capture.specs.Pcap.{record_bytes}
use Rattle.capture.specs.declared.endian.Endian.TheVariants.{Little}
use Rattle.capture_map.specs.declared.map.MapChannel.{MapChannel}
use Rattle.flow_selection.specs.declared.selection.Selection.{Selection}
use Rattle.flow_selection.specs.Lines.{is_left}
use Rattle.frame_records.specs.Frames.{frame_record, longest_frame}
use Rattle.frame_records.specs.declared.link.FrameLink.{FrameLink}
use Rattle.frame_records.specs.declared.origin.FrameOrigin.{FrameOrigin}
use Rattle.timed_frames.specs.declared.timed_step.LastBurst.{LastBurst}
use Rattle.timed_frames.specs.declared.timed_step.TimedStep.{TimedStep}
use Rattle.timed_frames.specs.declared.timed_step.TimedStep.TheVariants.{HandedIn, Frame, Asked, Replied, Ended}

-- the upstream channel id of a channel of a map, 0 where the map has none
abbrev pub id_of : List MapChannel → ℕ → ℕ
id_of channels channel = unwrap_or (option_map (λ one. one.id) (find (λ one. one.channel == channel) channels)) 0

-- where a frame came from that this burst completed
abbrev pub origin_of : List MapChannel → LastBurst → FrameOrigin
origin_of channels burst = record { channel = id_of channels burst.channel; sid = burst.sid; burst_id = burst.burst_id }

-- of a frame its record, with the time and the origin of the burst that completed it; a MAC frame
-- is never longer than that
abbrev pub frame_written : FrameLink → List MapChannel → LastBurst → List ℕ → List ℕ
frame_written link channels burst frame =
    if nat_le (length frame) longest_frame then record_bytes Little (frame_record link burst.time (origin_of channels burst) frame) else []

-- of nothing else anything
abbrev pub written_of : FrameLink → List MapChannel → TimedStep → List ℕ
written_of link channels (HandedIn flow burst) = []
written_of link channels (Frame flow burst frame) = frame_written link channels burst frame
written_of link channels (Asked burst request) = []
written_of link channels (Replied flow burst_id reply) = []
written_of link channels (Ended flow counts) = []

abbrev pub written_in : FrameLink → List MapChannel → List TimedStep → List ℕ
written_in link channels timed = flat_map (written_of link channels) timed

-- the flow whose frame it is, if it is a frame
abbrev pub flow_of_frame : TimedStep → Option ℕ
flow_of_frame (HandedIn flow burst) = None
flow_of_frame (Frame flow burst frame) = Some flow
flow_of_frame (Asked burst request) = None
flow_of_frame (Replied flow burst_id reply) = None
flow_of_frame (Ended flow counts) = None

-- **what is left of what came where some flows are selected**, in its order: all but the frames of
-- the other flows
abbrev pub steps_left : Selection → List TimedStep → List TimedStep
steps_left selected timed = filter (λ step. is_left selected (flow_of_frame step)) timed

-- and what is written of that
abbrev pub left_in : Selection → FrameLink → List MapChannel → List TimedStep → List ℕ
left_in selected link channels timed = written_in link channels (steps_left selected timed)
