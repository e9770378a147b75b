use Rattle.capture_picture.proofs.Nearest.{nearest_index-number, nearest_index-below, nearest_index-above}
use Rattle.capture_picture.proofs.laws.indexes_are_nearest_to_the_newest.Goals as goal

pub returns : goal.returns
returns c = record { number = nearest_index-number; below = nearest_index-below; above = nearest_index-above }
