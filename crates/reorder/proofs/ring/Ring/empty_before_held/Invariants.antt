use Rattle.std.proofs.Common.{◌≡◌, ℕ, ◌<◌, None}
use Rattle.reorder.specs.Inside.Places.{item_at}
use Rattle.reorder.proofs.ring.Ring.empty_before_held.Given as goal

abbrev pub invariant-loop-offset : goal.invariant-loop-offset
invariant-loop-offset g l = (k : ℕ) → k < l.offset → item_at l.self k ≡ None
