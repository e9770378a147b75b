use Rattle.std.proofs.Common.{arith}
use Rattle.capture_picture.specs.Picture.{doubled_within, reached}
use Rattle.capture_picture.proofs.Widths.{doubled_within-reaches, column_within}
use Rattle.capture_picture.proofs.laws.columns_reach_each_age.Goals as goal

pub returns : goal.returns
unfolding reached
returns c = λ age picture some. column_within age (doubled_within age age picture).column_width (doubled_within-reaches age age picture some (omega (arith, some)))
