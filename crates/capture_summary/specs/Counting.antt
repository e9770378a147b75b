-- What is counted of a capture.
use Rattle.std.specs.Prelude.{ℕ, ◌+◌, ◌-◌, ◌==◌, ◌&&◌, Bool, true, List, [], ◌∷◌, replicate, filter, slice_index, slice_set, if◌then◌else◌}
use Rattle.std.specs.List.{list_all}
use Rattle.flow_records.specs.Counted.{counted}
use Rattle.flow_core.specs.Counts.{no_counts}
use Rattle.flow_core.specs.declared.counts.FlowCounts.{FlowCounts}
use Rattle.lane.specs.Report.{refusal_number}
use Rattle.lane.specs.declared.refusal.Refusal.{Refusal}
use Rattle.capture.specs.declared.burst.Passed.TheVariants.{CutShort, OtherType, Malformed, NoSegmentHeader, NoChannelOrSid}
use Rattle.capture_summary.specs.declared.sequence.FrameSequence.{FrameSequence}
use Rattle.capture_summary.specs.declared.sequence.FrameSequence.TheVariants.{Right, Wrong, Encrypted, NotThere}
use Rattle.capture_summary.specs.declared.flow_summary.FlowSummary.{FlowSummary}
use Rattle.capture_summary.specs.declared.refusals.RefusalCounts.{RefusalCounts}
use Rattle.capture_summary.specs.declared.channel_summary.ChannelSummary.{ChannelSummary}
use Rattle.capture_summary.specs.declared.passed.PassedReason.{PassedReason}
use Rattle.capture_summary.specs.declared.passed.PassedReason.TheVariants.{OtherLinkType, Packet, UnknownChannel, UnknownSid}
use Rattle.capture_summary.specs.declared.passed.PassedCounts.{PassedCounts}
use Rattle.capture_summary.specs.declared.summary.CaptureSummary.{CaptureSummary}

-- one more
abbrev pub one_more : ℕ → ℕ
one_more count = counted (count + 1)

-- **What was counted of a flow in two parts of its time, together**
abbrev pub both_counts : FlowCounts → FlowCounts → FlowCounts
both_counts one other = record {
  kept = counted (one.kept + other.kept);
  late = counted (one.late + other.late);
  repeat = counted (one.repeat + other.repeat);
  beyond = counted (one.beyond + other.beyond);
  lost = counted (one.lost + other.lost);
  frames = counted (one.frames + other.frames);
  skipped = counted (one.skipped + other.skipped);
}

-- nothing was counted of a flow with this service flow identifier, which is selected
abbrev pub new_flow : ℕ → FlowSummary
new_flow sfid = record { sfid = sfid; counts = no_counts; right = 0; wrong = 0; encrypted = 0; restarts = 0; requests = 0; units = 0; is_selected = true }

-- one more frame, of which this is known; one more request, for so many units; one more restart
abbrev pub with_frame : FrameSequence → FlowSummary → FlowSummary
with_frame Right flow = record flow { right = one_more flow.right }
with_frame Wrong flow = record flow { wrong = one_more flow.wrong }
with_frame Encrypted flow = record flow { encrypted = one_more flow.encrypted }
with_frame NotThere flow = flow

abbrev pub with_request : ℕ → FlowSummary → FlowSummary
with_request units flow = record flow { requests = one_more flow.requests; units = counted (flow.units + units) }

abbrev pub with_restart : FlowSummary → FlowSummary
with_restart flow = record flow { restarts = one_more flow.restarts }

-- all that is counted of a flow; nothing came of it where all of that is 0
abbrev pub all_counts : FlowSummary → List ℕ
all_counts flow =
    flow.counts.kept ∷ flow.counts.late ∷ flow.counts.repeat ∷ flow.counts.beyond ∷ flow.counts.lost ∷ flow.counts.frames ∷ flow.counts.skipped
    ∷ flow.right ∷ flow.wrong ∷ flow.encrypted ∷ flow.restarts ∷ flow.requests ∷ flow.units ∷ []

abbrev pub is_quiet : FlowSummary → Bool
is_quiet flow = list_all (λ count. count == 0) (all_counts flow)

-- so of a flow that is selected
abbrev pub is_selected_quiet : FlowSummary → Bool
is_selected_quiet flow = flow.is_selected && is_quiet flow

-- the flows that are selected
abbrev pub selected_flows : List FlowSummary → List FlowSummary
selected_flows flows = filter (λ flow. flow.is_selected) flows

-- how often a refusal came: refusals are numbered from 1
abbrev pub no_refusals : RefusalCounts
no_refusals = record { counts = replicate 11 0 }

abbrev pub count_of_refusal : RefusalCounts → Refusal → ℕ
count_of_refusal refused refusal = slice_index refused.counts (refusal_number refusal - 1)

abbrev pub with_refusal : Refusal → RefusalCounts → RefusalCounts
with_refusal refusal refused =
    record { counts = slice_set refused.counts (refusal_number refusal - 1) (one_more (count_of_refusal refused refusal)) }

-- nothing was counted of a channel with this upstream channel id
abbrev pub new_channel : ℕ → ℕ → ChannelSummary
new_channel channel id = record { channel = channel; id = id; bursts = 0; above = 0; admitted = 0; refused = no_refusals }

-- one more burst, above its grant or not
abbrev pub with_burst : Bool → ChannelSummary → ChannelSummary
with_burst is_above channel =
    record channel { bursts = one_more channel.bursts; above = if is_above then one_more channel.above else channel.above }

-- one more record, with a time before that of the one before or not
abbrev pub with_record : Bool → CaptureSummary → CaptureSummary
with_record is_earlier summary =
    record summary { records = one_more summary.records; earlier = if is_earlier then one_more summary.earlier else summary.earlier }

-- nothing was passed over; how often it was for a reason; once more
abbrev pub none_passed : PassedCounts
none_passed = record {
  other_link_type = 0;
  cut_short = 0;
  other_type = 0;
  malformed = 0;
  no_segment_header = 0;
  no_channel_or_sid = 0;
  unknown_channel = 0;
  unknown_sid = 0;
}

abbrev pub count_of_reason : PassedCounts → PassedReason → ℕ
count_of_reason passed OtherLinkType = passed.other_link_type
count_of_reason passed (Packet CutShort) = passed.cut_short
count_of_reason passed (Packet OtherType) = passed.other_type
count_of_reason passed (Packet Malformed) = passed.malformed
count_of_reason passed (Packet NoSegmentHeader) = passed.no_segment_header
count_of_reason passed (Packet NoChannelOrSid) = passed.no_channel_or_sid
count_of_reason passed UnknownChannel = passed.unknown_channel
count_of_reason passed UnknownSid = passed.unknown_sid

abbrev pub with_passed : PassedReason → PassedCounts → PassedCounts
with_passed OtherLinkType passed = record passed { other_link_type = one_more passed.other_link_type }
with_passed (Packet CutShort) passed = record passed { cut_short = one_more passed.cut_short }
with_passed (Packet OtherType) passed = record passed { other_type = one_more passed.other_type }
with_passed (Packet Malformed) passed = record passed { malformed = one_more passed.malformed }
with_passed (Packet NoSegmentHeader) passed = record passed { no_segment_header = one_more passed.no_segment_header }
with_passed (Packet NoChannelOrSid) passed = record passed { no_channel_or_sid = one_more passed.no_channel_or_sid }
with_passed UnknownChannel passed = record passed { unknown_channel = one_more passed.unknown_channel }
with_passed UnknownSid passed = record passed { unknown_sid = one_more passed.unknown_sid }
