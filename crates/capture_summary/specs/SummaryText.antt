-- What people read of a capture in the end.
use Rattle.std.specs.Prelude.{ℕ, ◌==◌, ◌||◌, not, List, [], ◌∷◌, ◌++◌, flat_map, count_by, codes, if◌then◌else◌}
use Rattle.text_lines.specs.Lines.{line_feed}
use Rattle.lane.specs.declared.refusal.Refusal.{Refusal}
use Rattle.capture_summary.specs.Counting.{is_quiet, is_selected_quiet, count_of_refusal, count_of_reason}
use Rattle.capture_summary.specs.Report.{all_refusals, all_reasons}
use Rattle.capture_summary.specs.Words.{named, reason_text, refusal_text}
use Rattle.capture_summary.specs.declared.flow_summary.FlowSummary.{FlowSummary}
use Rattle.capture_summary.specs.declared.channel_summary.ChannelSummary.{ChannelSummary}
use Rattle.capture_summary.specs.declared.passed.PassedReason.{PassedReason}
use Rattle.capture_summary.specs.declared.summary.CaptureSummary.{CaptureSummary}

-- the segments of a flow
abbrev pub segments_line : FlowSummary → List ℕ
segments_line flow =
    named (codes "flow") flow.sfid ++ named (codes ": segments kept") flow.counts.kept ++ named (codes ", late") flow.counts.late
    ++ named (codes ", repeated") flow.counts.repeat ++ named (codes ", beyond the window") flow.counts.beyond ++ named (codes ", lost") flow.counts.lost
    ++ line_feed ∷ []

-- its frames
abbrev pub frames_line : FlowSummary → List ℕ
frames_line flow =
    named (codes "  frames") flow.counts.frames ++ named (codes ": FCS right") flow.right ++ named (codes ", wrong") flow.wrong
    ++ named (codes ", encrypted") flow.encrypted ++ named (codes "; bytes skipped") flow.counts.skipped ++ line_feed ∷ []

-- how often it began anew, and what it asked for
abbrev pub requests_line : FlowSummary → List ℕ
requests_line flow =
    named (codes "  restarts") flow.restarts ++ named (codes "; requests") flow.requests ++ named (codes ", units") flow.units ++ line_feed ∷ []

-- a flow that is selected, and of which something came
abbrev pub flow_text : FlowSummary → List ℕ
flow_text flow = if not flow.is_selected || is_quiet flow then [] else (segments_line flow ++ frames_line flow ++ requests_line flow)

-- what was counted, if something was
abbrev pub counted_line : List ℕ → ℕ → List ℕ
counted_line what count = if count == 0 then [] else (named what count ++ line_feed ∷ [])

-- a refusal that came, by its words
abbrev pub refusal_line : Refusal → ℕ → List ℕ
refusal_line refusal count = if count == 0 then [] else (codes "  refused: " ++ named (refusal_text refusal) count ++ line_feed ∷ [])

-- the bursts of a channel
abbrev pub channel_line : ChannelSummary → List ℕ
channel_line channel =
    named (codes "channel") channel.channel ++ named (codes ", upstream channel id") channel.id ++ named (codes ": bursts") channel.bursts
    ++ named (codes ", above their grant") channel.above ++ named (codes ", admitted") channel.admitted ++ line_feed ∷ []

abbrev pub channel_text : ChannelSummary → List ℕ
channel_text channel =
    channel_line channel ++ flat_map (λ refusal. refusal_line refusal (count_of_refusal channel.refused refusal)) all_refusals

-- how many records there were
abbrev pub all_records_line : CaptureSummary → List ℕ
all_records_line summary =
    named (codes "records") summary.records ++ named (codes ", earlier than the record before") summary.earlier ++ line_feed ∷ []

-- how often clocks were set back, if one was
abbrev pub set_back_told : ℕ → List ℕ
set_back_told count = counted_line (codes "  bursts earlier than their flow's clock by more than --reorder, which set it back:") count

-- how many bursts were handed on early, if some were
abbrev pub crowded_told : ℕ → List ℕ
crowded_told count = counted_line (codes "  bursts handed on early, as 2048 of their flow waited (times stand still, or --reorder is long):") count

-- how often times couldn't be gone by
abbrev pub times_told : CaptureSummary → List ℕ
times_told summary = set_back_told summary.set_back ++ crowded_told summary.crowded

-- how many of them were passed over for a reason, if some were
abbrev pub reason_line : PassedReason → ℕ → List ℕ
reason_line why count = if count == 0 then [] else (codes "  passed over: " ++ named (reason_text why) count ++ line_feed ∷ [])

-- **What people read of a capture in the end**: of each selected flow of which something came, of
-- each channel, and of all records.
abbrev pub summary_text : CaptureSummary → List ℕ
summary_text summary =
    flat_map flow_text summary.flows.items ++ counted_line (codes "flows of which nothing came:") (count_by is_selected_quiet summary.flows.items) ++ flat_map channel_text summary.channels.items
    ++ all_records_line summary ++ times_told summary ++ flat_map (λ why. reason_line why (count_of_reason summary.passed why)) all_reasons
