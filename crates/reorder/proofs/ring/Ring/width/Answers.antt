use Rattle.std.proofs.Common.{sym, ◌∙◌}
use Rattle.reorder.proofs.RingFields.{width-is}
use Rattle.reorder.proofs.ring.Ring.width.Goals as goal

pub returns : goal.returns
returns g c = c.capacity.ensures.capacity ∙ sym (width-is _ _ c.self.invariant _ c.self.view_is)
