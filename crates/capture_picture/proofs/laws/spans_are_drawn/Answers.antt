use Rattle.capture_picture.proofs.Covering.{span_is_drawn}
use Rattle.capture_picture.proofs.laws.spans_are_drawn.Goals as goal

pub returns : goal.returns
returns c = span_is_drawn
