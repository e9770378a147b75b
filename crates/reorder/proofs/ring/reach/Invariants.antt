use Rattle.std.proofs.Common.{◌≡◌, ◌++◌, replicate, None}
use Rattle.circular_buffer.specs.Buffer.{buffer}
use Rattle.reorder.proofs.ring.reach.Given as goal

abbrev pub invariant-loop-reached : goal.invariant-loop-reached
invariant-loop-reached g l = l.places ≡ buffer (l.fn.places.items ++ replicate l._reached None) l.fn.places.capacity
