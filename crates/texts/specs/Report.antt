-- The report of an outcome, line by line.
use Rattle.std.specs.Prelude.{ℕ, List, [], ◌∷◌, ◌++◌, flat_map, codes}
use Rattle.hex.specs.Hex.{encode_lower}
use Rattle.flow_core.specs.declared.counts.FlowCounts.{FlowCounts}
use Rattle.lane.specs.declared.admitted.Request.{Request}
use Rattle.receiver.specs.declared.outcome.FlowOutcome.{FlowOutcome}
use Rattle.lane.specs.declared.report.LaneReport.{LaneReport}
use Rattle.receiver.specs.declared.outcome.Outcome.{Outcome}
use Rattle.text_lines.specs.Lines.{line_feed}
use Rattle.text_lines.specs.Putting.{spaced, numbered_texts}

-- a space, a word, a space and a number
abbrev pub named : List ℕ → ℕ → List ℕ
named word number = codes " " ++ word ++ spaced number

-- what was counted of a flow
abbrev pub counts_text : FlowCounts → List ℕ
counts_text counts =
    named (codes "kept") counts.kept ++ named (codes "late") counts.late ++ named (codes "repeat") counts.repeat
    ++ named (codes "beyond") counts.beyond ++ named (codes "lost") counts.lost ++ named (codes "frames") counts.frames
    ++ named (codes "skipped") counts.skipped

-- `flow <index> <sfid> kept <n> late <n> repeat <n> beyond <n> lost <n> frames <n> skipped <n>`
abbrev pub flow_line : ℕ → ℕ → FlowCounts → List ℕ
flow_line k sfid counts = codes "flow" ++ spaced k ++ spaced sfid ++ counts_text counts ++ line_feed ∷ []

-- `frame <index> <hex>`
abbrev pub frame_line : ℕ → List ℕ → List ℕ
frame_line k frame = codes "frame" ++ spaced k ++ codes " " ++ encode_lower frame ++ line_feed ∷ []

-- the line of a flow with this index, and one for each of its frames
abbrev pub flow_lines : ℕ → FlowOutcome → List ℕ
flow_lines k flow = flow_line k flow.sfid flow.counts ++ flat_map (frame_line k) flow.frames.items

-- `request <channel> <flow> <cluster> <units> <sequence>`
abbrev pub request_line : Request → List ℕ
request_line request =
    codes "request" ++ spaced request.channel ++ spaced request.flow ++ spaced request.cluster ++ spaced request.units
    ++ spaced request.sequence ++ line_feed ∷ []

-- the numbers of refusals, each after a space; `-` if there is none
abbrev pub refused_text : List ℕ → List ℕ
refused_text [] = codes " -"
refused_text (number ∷ more) = flat_map spaced (number ∷ more)

-- `lane <channel> admitted <n> refused <list>`
abbrev pub lane_line : ℕ → LaneReport → List ℕ
lane_line channel lane =
    codes "lane" ++ spaced channel ++ named (codes "admitted") lane.admitted ++ codes " refused" ++ refused_text lane.refused.items
    ++ line_feed ∷ []

-- The report of an outcome: the lines of each flow and its frames, of each channel's requests, and
-- of each lane.
abbrev pub report_text : Outcome → List ℕ
report_text outcome =
    numbered_texts flow_lines outcome.flows.items
    ++ flat_map (λ requests. flat_map request_line requests.items) outcome.requests
    ++ numbered_texts lane_line outcome.lanes
