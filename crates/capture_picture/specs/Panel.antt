-- What is drawn of one flow.
use Rattle.std.specs.Prelude.{ℕ, ◌+◌, ◌/◌, ◌==◌, List, [], ◌∷◌, ◌++◌, flat_map, codes, None, unwrap_or, if◌then◌else◌}
use Rattle.std.specs.List.{fold}
use Rattle.capture_picture.specs.Spans.{both_spans}
use Rattle.capture_picture.specs.Marking.{kept_within, no_marks, count_of_mark, both_marks}
use Rattle.capture_picture.specs.ShownFlow.{ShownFlow}
use Rattle.capture_picture.specs.Svg.{valued, time_text}
use Rattle.capture_picture.specs.Grid.{column_left, plot_width}
use Rattle.capture_picture.specs.Charts.{chart_text}
use Rattle.capture_picture.specs.declared.span.Span.{Span}
use Rattle.capture_picture.specs.declared.marks.Mark.{Mark}
use Rattle.capture_picture.specs.declared.marks.Mark.TheVariants.{Lost, Late, BadCheck, Restart}
use Rattle.capture_picture.specs.declared.marks.Marks.{Marks}
use Rattle.capture_picture.specs.declared.column.Column.{Column}
use Rattle.capture_picture.specs.declared.grid.Grid.{Grid}
use Rattle.capture_picture.specs.declared.chart.Chart.TheVariants.{Indexes, Behind}
use Rattle.capture_picture.specs.declared.picture.PictureChannel.{PictureChannel}
use Rattle.text_lines.specs.Putting.{numbered_texts}

-- the marks of all columns
abbrev pub all_marks : List Column → Marks
all_marks columns = fold (λ all (column : Column). both_marks all column.marks) no_marks columns

-- what all channels brought in all columns; where nothing came the index 0
abbrev pub whole_span : List Column → Span
whole_span columns =
    unwrap_or (fold (λ all (column : Column). fold both_spans all column.spans) None columns) (record { low = 0; high = 0; behind = 0 })

-- how the row of a mark begins, up to its strokes
abbrev pub mark_head : Mark → List ℕ
mark_head Lost = codes "<text x='-8' y='10' text-anchor='end'>lost</text><path stroke='red' d='"
mark_head Late = codes "<text x='-8' y='24' text-anchor='end'>late</text><path transform='translate(0,14)' stroke='orange' d='"
mark_head BadCheck = codes "<text x='-8' y='38' text-anchor='end'>bad checks</text><path transform='translate(0,28)' stroke='purple' d='"
mark_head Restart = codes "<text x='-8' y='52' text-anchor='end'>restarts</text><path transform='translate(0,42)' stroke='black' d='"

-- a stroke where there are marks
abbrev pub mark_stroke : ℕ → ℕ → List ℕ
mark_stroke left count = if count == 0 then [] else (valued (codes "M") left ++ codes " 0v10")

abbrev pub mark_strokes : Grid → List Column → Mark → List ℕ
mark_strokes grid columns mark =
    numbered_texts (λ at (column : Column). mark_stroke (kept_within (column_left grid at + grid.column / 2)) (count_of_mark column.marks mark)) columns

-- the row of a mark, and those of some
abbrev pub mark_row : Grid → List Column → Mark → List ℕ
mark_row grid columns mark = mark_head mark ++ mark_strokes grid columns mark ++ codes "'/>\n"

abbrev pub mark_rows : Grid → List Column → List Mark → List ℕ
mark_rows grid columns marks = flat_map (mark_row grid columns) marks

-- the strip of marks
abbrev pub marks_text : Grid → List Column → List ℕ
marks_text grid columns =
    valued (codes "<g transform='translate(0,240)' stroke-width='") grid.column ++ codes "'>\n"
    ++ mark_rows grid columns (Lost ∷ Late ∷ BadCheck ∷ Restart ∷ []) ++ codes "</g>\n"

-- which flow it is, and what was counted
abbrev pub heading_text : ℕ → ℕ → ℕ → Marks → List ℕ
heading_text flow sfid bursts marks =
    valued (codes "<text x='-130' y='16' font-size='14'>flow ") flow ++ valued (codes ", SFID ") sfid ++ valued (codes ": ") bursts
    ++ valued (codes " bursts, lost ") marks.lost ++ valued (codes ", late ") marks.late ++ valued (codes ", bad checks ") marks.bad_checks
    ++ valued (codes ", restarts ") marks.restarts ++ codes "</text>\n"

-- the labels of the two charts, and of the time axis, whose end is at this time in nanoseconds
abbrev pub index_labels : Span → List ℕ
index_labels whole =
    valued (codes "<text x='-8' y='38' text-anchor='end'>") whole.high
    ++ codes "</text><text x='-8' y='132' text-anchor='end'>segment index</text>"
    ++ valued (codes "<text x='-8' y='228' text-anchor='end'>") whole.low ++ codes "</text>\n"

abbrev pub behind_labels : Span → List ℕ
behind_labels whole =
    valued (codes "<text x='0' y='314'>segments behind the newest</text><text x='-8' y='330' text-anchor='end'>") whole.behind
    ++ codes "</text><text x='-8' y='380' text-anchor='end'>0</text>\n"

abbrev pub axis_text : Grid → ℕ → List ℕ
axis_text grid end =
    valued (codes "<text x='0' y='396'>0 s</text><text text-anchor='end' y='396' x='") (plot_width grid) ++ codes "'>" ++ time_text end
    ++ codes " s</text>\n"

-- **What is drawn of a flow**, so far down: what was counted, the chart of indexes, the marks, and
-- the chart of how far segments lay behind
abbrev pub panel_text : Grid → ℕ → List PictureChannel → ℕ → ShownFlow → List ℕ
panel_text grid end channels top flow =
    valued (codes "<g transform='translate(150,") top ++ codes ")'>\n" ++ heading_text flow.flow flow.sfid flow.bursts (all_marks flow.columns)
    ++ index_labels (whole_span flow.columns) ++ chart_text Indexes (whole_span flow.columns) grid flow.columns channels
    ++ marks_text grid flow.columns ++ behind_labels (whole_span flow.columns)
    ++ chart_text Behind (whole_span flow.columns) grid flow.columns channels ++ axis_text grid end ++ codes "</g>\n"
