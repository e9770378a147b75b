-- The charts of a flow.
use Rattle.std.specs.Prelude.{ℕ, ◌+◌, ◌-◌, List, [], ◌++◌, codes, slice_index_or, Option, Some, None}
use Rattle.capture_picture.specs.Marking.{kept_within}
use Rattle.capture_picture.specs.Svg.{valued, colour_text}
use Rattle.capture_picture.specs.Grid.{scaled, stroke_width, plot_width, stroke_left}
use Rattle.capture_picture.specs.declared.span.Span.{Span}
use Rattle.capture_picture.specs.declared.column.Column.{Column}
use Rattle.capture_picture.specs.declared.grid.Grid.{Grid}
use Rattle.capture_picture.specs.declared.chart.Chart.{Chart}
use Rattle.capture_picture.specs.declared.chart.Chart.TheVariants.{Indexes, Behind}
use Rattle.capture_picture.specs.declared.picture.PictureChannel.{PictureChannel}
use Rattle.text_lines.specs.Putting.{numbered_texts}

-- how a chart's group begins, up to the width of strokes
abbrev pub chart_head : Chart → List ℕ
chart_head Indexes = codes "<g transform='translate(0,28)' fill='none' stroke-width='"
chart_head Behind = codes "<g transform='translate(0,320)' fill='none' stroke-width='"

-- how its frame ends, from behind the width
abbrev pub frame_end : Chart → List ℕ
frame_end Indexes = codes "' height='200' stroke='#999' stroke-width='1'/>\n"
frame_end Behind = codes "' height='60' stroke='#999' stroke-width='1'/>\n"

-- how high an index is drawn above the least one
abbrev pub index_height : Span → ℕ → ℕ
index_height whole index = scaled (index - whole.low) (whole.high - whole.low) 197

-- a stroke from the greatest index down to the least, and a bit further so that a single segment is
-- seen: y runs downwards
abbrev pub index_stroke : Span → ℕ → Span → List ℕ
index_stroke whole left span =
    valued (codes "M") left ++ valued (codes " ") (197 - index_height whole span.high)
    ++ valued (codes "v") (kept_within (index_height whole span.high - index_height whole span.low + 3))

-- a short stroke as high as a segment lay behind the newest one, so that strokes of channels don't
-- hide one another
abbrev pub behind_stroke : Span → ℕ → Span → List ℕ
behind_stroke whole left span = valued (codes "M") left ++ valued (codes " ") (57 - scaled span.behind whole.behind 57) ++ codes "v3"

-- what is drawn of what a channel brought in a column, if it brought something
abbrev pub stroke_text : Chart → Span → ℕ → Option Span → List ℕ
stroke_text chart whole left None = []
stroke_text Indexes whole left (Some span) = index_stroke whole left span
stroke_text Behind whole left (Some span) = behind_stroke whole left span

-- the strokes of the channel at a place
abbrev pub channel_strokes : Chart → Span → Grid → ℕ → ℕ → List Column → List ℕ
channel_strokes chart whole grid place channel columns =
    numbered_texts (λ at (column : Column). stroke_text chart whole (stroke_left grid place at) (slice_index_or column.spans channel None)) columns

-- its path, in its colour
abbrev pub channel_path : Chart → Span → Grid → List Column → ℕ → ℕ → List ℕ
channel_path chart whole grid columns place channel =
    codes "<path stroke='" ++ colour_text channel ++ codes "' d='" ++ channel_strokes chart whole grid place channel columns
    ++ codes "'/>\n"

abbrev pub channel_paths : Chart → Span → Grid → List Column → List PictureChannel → List ℕ
channel_paths chart whole grid columns channels =
    numbered_texts (λ place (channel : PictureChannel). channel_path chart whole grid columns place channel.channel) channels

-- **A chart**: a frame, and a path for each channel
abbrev pub chart_text : Chart → Span → Grid → List Column → List PictureChannel → List ℕ
chart_text chart whole grid columns channels =
    valued (chart_head chart) (stroke_width grid) ++ valued (codes "'>\n<rect width='") (plot_width grid) ++ frame_end chart
    ++ channel_paths chart whole grid columns channels ++ codes "</g>\n"
