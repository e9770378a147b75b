use Rattle.capture_picture.specs.Grid.{stroke_left}
use Rattle.capture_picture.proofs.chart.stroke_left.Goals as goal

pub returns : goal.returns
unfolding stroke_left
returns c = rw (c.saturating_add.ensures, c.column_left.ensures, c.lane_offset.ensures)
