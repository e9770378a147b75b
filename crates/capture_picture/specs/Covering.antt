-- What is drawn within something else.
use Rattle.std.specs.Prelude.{◌≡◌, ℕ, ◌≤◌, List, length, slice_index_or, Option, Some, None}
use Rattle.capture_picture.specs.Columns.{channels_most, no_column}
use Rattle.capture_picture.specs.declared.span.Span.{Span}
use Rattle.capture_picture.specs.declared.column.Column.{Column}

-- a column has a place for each channel
abbrev pub HasAllChannels : Column → Type 0
HasAllChannels column = length column.spans ≡ channels_most

-- what is drawn of a channel in a column
abbrev pub span_at : List Column → ℕ → ℕ → Option Span
span_at columns column channel = slice_index_or (slice_index_or columns column no_column).spans channel None

-- a span is within another, if there is one at all
abbrev pub Covers : Option Span → Option Span → Type 0
Covers whole None = Unit {0}
Covers None (Some part) = ⊥
Covers (Some whole) (Some part) = (whole.low ≤ part.low) × (part.high ≤ whole.high) × (part.behind ≤ whole.behind)
