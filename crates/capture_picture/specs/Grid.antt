-- Where columns and channels are drawn.
use Rattle.std.specs.Prelude.{ℕ, ◌+◌, ◌*◌, ◌/◌, max, length}
use Rattle.capture_picture.specs.Marking.{kept_within}
use Rattle.capture_picture.specs.Picture.{Picture}
use Rattle.capture_picture.specs.declared.grid.Grid.{Grid}

-- so many columns of a picture are used
abbrev pub used_columns : Picture → ℕ
used_columns picture = picture.latest / picture.column_width + 1

-- the used columns fill 1,024 units, as far as a whole number for each allows
abbrev pub grid_of : Picture → Grid
grid_of picture = record { used = used_columns picture; column = 1024 / used_columns picture; channels = length picture.channels }

-- how long after the first burst the used columns end, in nanoseconds
abbrev pub end_of : Picture → ℕ
end_of picture = kept_within (used_columns picture * picture.column_width)

-- how many of so many units a part of a whole takes
abbrev pub scaled : ℕ → ℕ → ℕ → ℕ
scaled part whole units = kept_within (part * units) / max whole 1

-- how wide a chart is
abbrev pub plot_width : Grid → ℕ
plot_width grid = kept_within (grid.used * grid.column)

-- how wide the strokes of a channel are: the channels share a column
abbrev pub stroke_width : Grid → ℕ
stroke_width grid = max (grid.column / max grid.channels 1) 1

-- how far from a column's left end the strokes of the channel at this place are
abbrev pub lane_offset : Grid → ℕ → ℕ
lane_offset grid place = kept_within (kept_within (place * grid.column) / max grid.channels 1 + stroke_width grid / 2)

-- where a column's left end is
abbrev pub column_left : Grid → ℕ → ℕ
column_left grid column = kept_within (column * grid.column)

-- where the strokes of the channel at a place stand in a column
unfoldable pub stroke_left : Grid → ℕ → ℕ → ℕ
stroke_left grid place column = kept_within (column_left grid column + lane_offset grid place)
