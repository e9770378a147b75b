-- The columns of a flow's picture.
use Rattle.std.specs.Prelude.{ℕ, ◌+◌, ◌*◌, List, length, map, replicate, slice_index_or, slice_set, Option, Some, None}
use Rattle.std.specs.List.{range_with_len}
use Rattle.capture_picture.specs.Spans.{both_spans}
use Rattle.capture_picture.specs.Marking.{no_marks, both_marks}
use Rattle.capture_picture.specs.declared.span.Span.{Span}
use Rattle.capture_picture.specs.declared.column.Column.{Column}

-- so many channels and so many columns there are
abbrev pub channels_most : ℕ
channels_most = 16

abbrev pub columns_most : ℕ
columns_most = 256

-- a column in which nothing came
abbrev pub no_column : Column
no_column = record { spans = replicate 16 None; marks = no_marks }

-- the columns of a flow of which nothing came
unfoldable pub empty_columns : List Column
empty_columns = replicate 256 no_column

-- a channel brought this too
abbrev pub with_span : ℕ → Span → Column → Column
with_span channel span column =
    record column { spans = slice_set column.spans channel (both_spans (slice_index_or column.spans channel None) (Some span)) }

-- what came in both columns, channel by channel
abbrev pub spans_of_both : List (Option Span) → List (Option Span) → List (Option Span)
spans_of_both ones others = map (λ k. both_spans (slice_index_or ones k None) (slice_index_or others k None)) (range_with_len 0 (length ones))

abbrev pub both_columns : Column → Column → Column
both_columns one other = record { spans = spans_of_both one.spans other.spans; marks = both_marks one.marks other.marks }

-- what came in the two columns that become the one at this place: past the last column nothing came
unfoldable pub pair_at : List Column → ℕ → Column
pair_at columns place = both_columns (slice_index_or columns (2 * place) no_column) (slice_index_or columns (2 * place + 1) no_column)

-- **Each two neighbours become one**, and the other half is empty
unfoldable pub halved : List Column → List Column
halved columns = map (pair_at columns) (range_with_len 0 (length columns))
