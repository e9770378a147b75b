use Rattle.frame_comparison.proofs.Arrivals.{finished-equal}
use Rattle.frame_comparison.proofs.laws.nothing_lonely_means_equal.Goals as goal

pub returns : goal.returns
returns c = finished-equal
