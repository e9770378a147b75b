-- The report of a capture, line by line.
use Rattle.std.specs.Prelude.{ℕ, ◌==◌, List, [], ◌∷◌, ◌++◌, flat_map, codes, if◌then◌else◌}
use Rattle.std.specs.List.{list_all}
use Rattle.std.specs.Fmt.{decimal}
use Rattle.text_lines.specs.Lines.{line_feed}
use Rattle.capture_summary.specs.ReplayLines.{flow_line}
use Rattle.lane.specs.Report.{refusal_number}
use Rattle.lane.specs.declared.refusal.Refusal.{Refusal}
use Rattle.lane.specs.declared.refusal.Refusal.TheVariants.{GrantRange, GrantKnown, UnknownSid, TooManyGrants, GrantOutOfMemory, NoGrant, TooLong, BadCheck, TooShort, PointerPast, BurstOutOfMemory}
use Rattle.capture.specs.declared.burst.Passed.TheVariants.{CutShort, OtherType, Malformed, NoSegmentHeader, NoChannelOrSid}
use Rattle.capture_summary.specs.Counting.{count_of_refusal, count_of_reason}
use Rattle.text_lines.specs.Putting.{spaced}
use Rattle.capture_summary.specs.Words.{named, reason_text}
use Rattle.capture_summary.specs.declared.flow_summary.FlowSummary.{FlowSummary}
use Rattle.capture_summary.specs.declared.refusals.RefusalCounts.{RefusalCounts}
use Rattle.capture_summary.specs.declared.channel_summary.ChannelSummary.{ChannelSummary}
use Rattle.capture_summary.specs.declared.passed.PassedReason.{PassedReason}
use Rattle.capture_summary.specs.declared.passed.PassedReason.TheVariants as reason
use Rattle.capture_summary.specs.declared.passed.PassedCounts.{PassedCounts}
use Rattle.capture_summary.specs.declared.summary.CaptureSummary.{CaptureSummary}
use Rattle.text_lines.specs.Putting.{numbered_texts}

-- `joined <index> right <n> wrong <n> encrypted <n> restarts <n> requests <n> units <n>`
abbrev pub joined_line : ℕ → FlowSummary → List ℕ
joined_line k flow =
    named (codes "joined") k ++ named (codes " right") flow.right ++ named (codes " wrong") flow.wrong ++ named (codes " encrypted") flow.encrypted
    ++ named (codes " restarts") flow.restarts ++ named (codes " requests") flow.requests ++ named (codes " units") flow.units ++ line_feed ∷ []

-- of a flow that is selected its line as in a report of replay, and how its frames and requests are
abbrev pub flow_lines : ℕ → FlowSummary → List ℕ
flow_lines k flow = if flow.is_selected then (flow_line k flow.sfid flow.counts ++ joined_line k flow) else []

-- all refusals, by their numbers
abbrev pub all_refusals : List Refusal
all_refusals =
    GrantRange ∷ GrantKnown ∷ UnknownSid ∷ TooManyGrants ∷ GrantOutOfMemory ∷ NoGrant ∷ TooLong ∷ BadCheck ∷ TooShort ∷ PointerPast ∷ BurstOutOfMemory ∷ []

-- a refusal that came: its number, and how often
abbrev pub counted_refusal : ℕ → ℕ → List ℕ
counted_refusal number count = if count == 0 then [] else (spaced number ++ codes "x" ++ decimal count)

-- the refusals that came; `-` if none did
abbrev pub refused_text : RefusalCounts → List ℕ
refused_text refused =
    if list_all (λ count. count == 0) refused.counts then codes " -"
    else flat_map (λ refusal. counted_refusal (refusal_number refusal) (count_of_refusal refused refusal)) all_refusals

-- `lane <channel> admitted <n> refused`
abbrev pub admitted_text : ℕ → ℕ → List ℕ
admitted_text channel admitted = named (codes "lane") channel ++ named (codes " admitted") admitted ++ codes " refused"

-- and behind it the list of what was refused
abbrev pub lane_line : ChannelSummary → List ℕ
lane_line channel = admitted_text channel.channel channel.admitted ++ refused_text channel.refused ++ line_feed ∷ []

-- `bursts <channel> <id> <n> above <n>`
abbrev pub bursts_line : ChannelSummary → List ℕ
bursts_line channel =
    named (codes "bursts") channel.channel ++ spaced channel.id ++ spaced channel.bursts ++ named (codes " above") channel.above ++ line_feed ∷ []

abbrev pub channel_lines : ChannelSummary → List ℕ
channel_lines channel = lane_line channel ++ bursts_line channel

-- all reasons to pass over a record, in the order of their words, capital letters before small ones
abbrev pub all_reasons : List PassedReason
all_reasons =
    reason.Packet CutShort ∷ reason.Packet Malformed ∷ reason.Packet NoChannelOrSid ∷ reason.Packet NoSegmentHeader ∷ reason.OtherLinkType
    ∷ reason.Packet OtherType ∷ reason.UnknownSid ∷ reason.UnknownChannel ∷ []

-- `passed <n> <why>`, where some were passed over
abbrev pub passed_line : PassedReason → ℕ → List ℕ
passed_line why count = if count == 0 then [] else (named (codes "passed") count ++ codes " " ++ reason_text why ++ line_feed ∷ [])

abbrev pub passed_lines : PassedCounts → List ℕ
passed_lines passed = flat_map (λ why. passed_line why (count_of_reason passed why)) all_reasons

-- `records <n> earlier <n>`
abbrev pub records_line : CaptureSummary → List ℕ
records_line summary = named (codes "records") summary.records ++ named (codes " earlier") summary.earlier ++ line_feed ∷ []

-- `clock set_back <n> crowded <n>`
abbrev pub clock_line : CaptureSummary → List ℕ
clock_line summary = named (codes "clock set_back") summary.set_back ++ named (codes " crowded") summary.crowded ++ line_feed ∷ []

-- **The report of a capture**: the lines of each flow that is selected and of each channel, in
-- order, what was passed over, how many records there were, and how clocks were.
abbrev pub report_text : CaptureSummary → List ℕ
report_text summary =
    numbered_texts flow_lines summary.flows.items ++ flat_map channel_lines summary.channels.items ++ passed_lines summary.passed ++ records_line summary
    ++ clock_line summary
