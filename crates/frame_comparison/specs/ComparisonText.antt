-- What people read of a comparison.
use Rattle.std.specs.Prelude.{ℕ, Bool, true, false, Option, Some, None, List, [], ◌++◌, flat_map, codes, if◌then◌else◌, slice_get}
use Rattle.std.specs.Fmt.{decimal}
use Rattle.hex.specs.Hex.{encode_lower}
use Rattle.text_lines.specs.Putting.{numbered_texts, seconds_text}
use Rattle.burst_fates.specs.declared.missing_reason.MissingReason.{MissingReason}
use Rattle.burst_fates.specs.Words.{reason_text}
use Rattle.frame_comparison.specs.declared.compared_counts.ComparedCounts.{ComparedCounts}
use Rattle.frame_comparison.specs.Frames.{ShownFrame}
use Rattle.frame_comparison.specs.Seen.{ComparisonSeen, is_quiet}

-- a flow's service flow identifier, where it is known
abbrev pub sfid_text : Option ℕ → List ℕ
sfid_text (Some sfid) = codes " (SFID " ++ decimal sfid ++ codes ")"
sfid_text None = []

-- a flow of which something came
abbrev pub counts_text : ComparedCounts → List ℕ
counts_text counts =
    codes ": " ++ decimal counts.both ++ codes " in both, " ++ decimal counts.only_analyser ++ codes " only the analyser's, "
    ++ decimal counts.only_here ++ codes " only here\n"

abbrev pub flow_line : List ℕ → ℕ → ComparedCounts → List ℕ
flow_line sfids flow counts =
    if is_quiet counts then [] else (codes "  flow " ++ decimal flow ++ sfid_text (slice_get sfids flow) ++ counts_text counts)

-- a frame that only one side has, behind these words
abbrev pub lonely_text : List ℕ → ShownFrame → List ℕ
lonely_text words frame =
    words ++ decimal frame.flow ++ codes ", at " ++ seconds_text frame.time ++ codes ", " ++ decimal frame.byte_count ++ codes " bytes: "
    ++ encode_lower frame.first

-- one that only we have
abbrev pub here_line : ShownFrame → List ℕ
here_line frame = lonely_text (codes "  only here: flow ") frame ++ codes "\n"

-- one that only the analyser has, and why we haven't it, where that is known
abbrev pub told_reason : Option MissingReason → List ℕ
told_reason (Some reason) = codes "; " ++ reason_text reason
told_reason None = []

abbrev pub missing_line : List MissingReason → ℕ → ShownFrame → List ℕ
missing_line reasons place frame = lonely_text (codes "  only the analyser's: flow ") frame ++ told_reason (slice_get reasons place) ++ codes "\n"

-- a comparison that isn't whole is told
abbrev pub whole_line : Bool → List ℕ
whole_line true = []
whole_line false = codes "  out of memory: what came later was not compared\n"

-- **What people read of a comparison**: a line for each flow of which something came, and then one
-- for each frame that is listed, first the analyser's, each with the reason at its place
abbrev pub comparison_text : List ℕ → List MissingReason → ComparisonSeen → List ℕ
comparison_text sfids reasons seen =
    codes "comparison with the analyser's frames\n" ++ numbered_texts (flow_line sfids) seen.counts
    ++ numbered_texts (missing_line reasons) seen.analyser.only ++ flat_map here_line seen.here.only ++ whole_line seen.is_whole
