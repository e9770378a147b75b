use Rattle.reorder.proofs.RingFields.{from_first-begin_anew}
use Rattle.reorder.proofs.ring.Ring.begin_anew.Goals as goal

pub returns : goal.returns
returns g c = from_first-begin_anew _ _ c.self.invariant _ c.self.view_is c.requires
