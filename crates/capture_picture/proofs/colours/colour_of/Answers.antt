use Rattle.capture_picture.specs.Svg.{colour_text}
use Rattle.capture_picture.proofs.colours.colour_of.Goals as goal

pub returns : goal.returns
unfolding colour_text
returns c = rw c.from.ensures
