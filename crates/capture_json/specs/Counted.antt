-- What was counted of a capture, as JSON. The members of an object are in the order of their names.
use Rattle.std.specs.Prelude.{ℕ, List, [], ◌∷◌, map, codes}
use Rattle.serde_json.specs.Data.{Data, Members, object, array, number, unsigned, member, no_members}
use Rattle.serde_json.specs.View.{items_of}
use Rattle.lane.specs.declared.refusal.Refusal.TheVariants.{GrantRange, GrantKnown, UnknownSid, TooManyGrants, GrantOutOfMemory, NoGrant, TooLong, BadCheck, TooShort, PointerPast, BurstOutOfMemory}
use Rattle.capture_summary.specs.Counting.{count_of_refusal, selected_flows}
use Rattle.capture_summary.specs.declared.flow_summary.FlowSummary.{FlowSummary}
use Rattle.capture_summary.specs.declared.refusals.RefusalCounts.{RefusalCounts}
use Rattle.capture_summary.specs.declared.channel_summary.ChannelSummary.{ChannelSummary}
use Rattle.capture_summary.specs.declared.passed.PassedCounts.{PassedCounts}
use Rattle.capture_summary.specs.declared.summary.CaptureSummary.{CaptureSummary}

-- numbers by their names, and what follows them
abbrev pub numbers_then : List (List ℕ × ℕ) → Members → Members
numbers_then [] rest = rest
numbers_then (one ∷ others) rest = member one.0 (number (unsigned one.1)) (numbers_then others rest)

abbrev pub numbers : List (List ℕ × ℕ) → Data
numbers all = object (numbers_then all no_members)

abbrev pub segments_data : FlowSummary → Data
segments_data flow = numbers
    ((codes "beyond", flow.counts.beyond) ∷ (codes "kept", flow.counts.kept) ∷ (codes "late", flow.counts.late) ∷ (codes "lost", flow.counts.lost)
    ∷ (codes "repeated", flow.counts.repeat) ∷ [])

abbrev pub frames_data : FlowSummary → Data
frames_data flow = numbers
    ((codes "all", flow.counts.frames) ∷ (codes "encrypted", flow.encrypted) ∷ (codes "fcs_right", flow.right) ∷ (codes "fcs_wrong", flow.wrong) ∷ [])

abbrev pub requests_data : FlowSummary → Data
requests_data flow = numbers ((codes "all", flow.requests) ∷ (codes "units", flow.units) ∷ [])

abbrev pub flow_data : FlowSummary → Data
flow_data flow = object
    (member (codes "frames") (frames_data flow)
    (member (codes "requests") (requests_data flow)
    (numbers_then ((codes "restarts", flow.restarts) ∷ [])
    (member (codes "segments") (segments_data flow)
    (numbers_then ((codes "sfid", flow.sfid) ∷ (codes "skipped_bytes", flow.counts.skipped) ∷ []) no_members)))))

abbrev pub refused_grants_data : RefusalCounts → Data
refused_grants_data refused = numbers
    ((codes "known", count_of_refusal refused GrantKnown) ∷ (codes "out_of_memory", count_of_refusal refused GrantOutOfMemory)
    ∷ (codes "out_of_range", count_of_refusal refused GrantRange) ∷ (codes "too_many", count_of_refusal refused TooManyGrants)
    ∷ (codes "unknown_sid", count_of_refusal refused UnknownSid) ∷ [])

abbrev pub refused_bursts_data : RefusalCounts → Data
refused_bursts_data refused = numbers
    ((codes "bad_check", count_of_refusal refused BadCheck) ∷ (codes "no_grant", count_of_refusal refused NoGrant)
    ∷ (codes "out_of_memory", count_of_refusal refused BurstOutOfMemory) ∷ (codes "pointer_past_the_end", count_of_refusal refused PointerPast)
    ∷ (codes "too_long", count_of_refusal refused TooLong) ∷ (codes "too_short", count_of_refusal refused TooShort) ∷ [])

abbrev pub channel_data : ChannelSummary → Data
channel_data one = object (numbers_then
    ((codes "above_grant", one.above) ∷ (codes "admitted", one.admitted) ∷ (codes "bursts", one.bursts) ∷ (codes "channel", one.channel) ∷ (codes "id", one.id) ∷ [])
    (member (codes "refused_bursts") (refused_bursts_data one.refused)
    (member (codes "refused_grants") (refused_grants_data one.refused) no_members)))

abbrev pub passed_data : PassedCounts → Data
passed_data passed = numbers
    ((codes "cut_short", passed.cut_short) ∷ (codes "malformed", passed.malformed) ∷ (codes "no_channel_or_sid", passed.no_channel_or_sid)
    ∷ (codes "no_segment_header", passed.no_segment_header) ∷ (codes "other_link_type", passed.other_link_type) ∷ (codes "other_type", passed.other_type)
    ∷ (codes "unknown_channel", passed.unknown_channel) ∷ (codes "unknown_sid", passed.unknown_sid) ∷ [])

-- **All that was counted**, of flows that of those which are selected, and how frames compare
abbrev pub summary_data : Data → CaptureSummary → Data
summary_data compared summary = object
    (member (codes "channels") (array (items_of (map channel_data summary.channels.items)))
    (numbers_then ((codes "clock_crowded", summary.crowded) ∷ (codes "clock_set_back", summary.set_back) ∷ [])
    (member (codes "comparison") compared
    (numbers_then ((codes "earlier", summary.earlier) ∷ [])
    (member (codes "flows") (array (items_of (map flow_data (selected_flows summary.flows.items))))
    (member (codes "passed") (passed_data summary.passed)
    (numbers_then ((codes "records", summary.records) ∷ []) no_members)))))))
