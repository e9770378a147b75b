use Rattle.std.proofs.Common.{arith}
use Rattle.reorder.proofs.RingFields.{width-is, ring-turned, from_first-turn}
use Rattle.reorder.proofs.ring.Ring.turn.Goals as goal

pub place_from-self-inside-requires-clause-offset_in_range : goal.place_from-self-inside-requires-clause-offset_in_range
place_from-self-inside-requires-clause-offset_in_range g c = omega (arith, width-is _ _ c.self.invariant _ c.self.view_is)

pub invariant_of-self : goal.invariant_of-self
invariant_of-self g c = ring-turned _ _ c.self.invariant _ c.self.view_is _ _ _ c.capacity.ensures.capacity c.requires c.place_from-self-inside.ensures

pub returns : goal.returns
returns g c = from_first-turn _ _ c.self.invariant _ c.self.view_is _ _ _ c.capacity.ensures.capacity c.requires c.place_from-self-inside.ensures
