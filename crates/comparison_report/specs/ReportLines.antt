-- The lines of a comparison of frames for programs.
use Rattle.std.specs.Prelude.{ℕ, Bool, true, false, Option, Some, None, List, [], ◌∷◌, ◌++◌, flat_map, codes, if◌then◌else◌, slice_get}
use Rattle.std.specs.Fmt.{decimal}
use Rattle.hex.specs.Hex.{encode_lower}
use Rattle.text_lines.specs.Putting.{numbered_texts, spaced}
use Rattle.burst_fates.specs.declared.missing_reason.MissingReason.{MissingReason}
use Rattle.burst_fates.specs.Words.{reason_word, burst_in}
use Rattle.frame_comparison.specs.declared.compared_counts.ComparedCounts.{ComparedCounts}
use Rattle.frame_comparison.specs.Frames.{ShownFrame}
use Rattle.frame_comparison.specs.Seen.{ComparisonSeen, is_quiet}

-- a flow of which something came
abbrev pub flow_line : ℕ → ComparedCounts → List ℕ
flow_line flow counts =
    if is_quiet counts then []
    else (codes "compared" ++ spaced flow ++ codes " both" ++ spaced counts.both ++ codes " analyser" ++ spaced counts.only_analyser
    ++ codes " here" ++ spaced counts.only_here ++ codes "\n")

-- bytes as a field of a line, which is never empty
abbrev pub hex_field : List ℕ → List ℕ
hex_field [] = codes "-"
hex_field (byte ∷ bytes) = encode_lower (byte ∷ bytes)

-- a frame that only one side has, behind these words
abbrev pub only_fields : List ℕ → ShownFrame → List ℕ
only_fields words frame = words ++ spaced frame.flow ++ spaced frame.time ++ spaced frame.byte_count ++ codes " " ++ hex_field frame.first

-- one that only we have
abbrev pub here_line : ShownFrame → List ℕ
here_line frame = only_fields (codes "only here") frame ++ codes "\n"

-- one that only the analyser has, why we haven't it, and the burst that this names
abbrev pub burst_field : Option ℕ → List ℕ
burst_field (Some id) = decimal id
burst_field None = codes "-"

abbrev pub reason_fields : Option MissingReason → List ℕ
reason_fields (Some reason) = codes " " ++ reason_word reason ++ codes " " ++ burst_field (burst_in reason)
reason_fields None = codes " - -"

abbrev pub missing_line : List MissingReason → ℕ → ShownFrame → List ℕ
missing_line reasons place frame = only_fields (codes "only analyser") frame ++ reason_fields (slice_get reasons place) ++ codes "\n"

-- whether all that came was compared, and how many frames of the analyser's no flow has
abbrev pub whole_word : Bool → List ℕ
whole_word true = codes "whole"
whole_word false = codes "partial"

abbrev pub comparison_line : Bool → ℕ → List ℕ
comparison_line is_whole strangers = codes "comparison " ++ whole_word is_whole ++ codes " strangers" ++ spaced strangers ++ codes "\n"

-- **The lines of a comparison for programs**: one for each flow of which something came, one for
-- each frame that is listed, first the analyser's, each with the reason at its place, and a last
-- one
abbrev pub report_text : ComparisonSeen → List MissingReason → ℕ → List ℕ
report_text seen reasons strangers =
    numbered_texts flow_line seen.counts ++ numbered_texts (missing_line reasons) seen.analyser.only
    ++ flat_map here_line seen.here.only ++ comparison_line seen.is_whole strangers
