-- The line of a flow, as in a report of replay.
use Rattle.std.specs.Prelude.{ℕ, List, [], ◌∷◌, ◌++◌, codes}
use Rattle.text_lines.specs.Lines.{line_feed}
use Rattle.flow_core.specs.declared.counts.FlowCounts.{FlowCounts}
use Rattle.text_lines.specs.Putting.{spaced}
use Rattle.capture_summary.specs.Words.{named}

abbrev pub flow_line : ℕ → ℕ → FlowCounts → List ℕ
flow_line k sfid counts = named (codes "flow") k ++ spaced sfid ++ named (codes " kept") counts.kept ++ named (codes " late") counts.late ++ named (codes " repeat") counts.repeat
    ++ named (codes " beyond") counts.beyond ++ named (codes " lost") counts.lost ++ named (codes " frames") counts.frames
    ++ named (codes " skipped") counts.skipped ++ line_feed ∷ []
