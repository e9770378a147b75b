-- Parts of a report's lines.
use Rattle.std.specs.Prelude.{ℕ, List, ◌++◌, codes}
use Rattle.flow_core.specs.declared.counts.FlowCounts.{FlowCounts}
use Rattle.lane.specs.declared.admitted.Request.{Request}
use Rattle.text_lines.specs.Putting.{spaced}
use Rattle.texts.specs.Report.{named}

-- what stands before the counts in the line of a flow with this index and service flow identifier
abbrev pub flow_words : ℕ → ℕ → List ℕ
flow_words k sfid = codes "flow" ++ spaced k ++ spaced sfid

-- what was counted of the segments of a flow that came
abbrev pub arrived_text : FlowCounts → List ℕ
arrived_text counts =
    named (codes "kept") counts.kept ++ named (codes "late") counts.late ++ named (codes "repeat") counts.repeat
    ++ named (codes "beyond") counts.beyond

-- what a request asks for, and in which segment
abbrev pub asked_text : Request → List ℕ
asked_text request = spaced request.cluster ++ spaced request.units ++ spaced request.sequence
