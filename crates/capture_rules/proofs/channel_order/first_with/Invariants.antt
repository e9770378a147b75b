-- None of those that were looked at has them.
use Rattle.std.proofs.Common.{◌≡◌, ℕ, ◌<◌, false, Some, slice_get}
use Rattle.capture_rules.specs.declared.arrival.Waiting.{Waiting}
use Rattle.capture_rules.specs.Inside.Numbers.{has}
use Rattle.capture_rules.proofs.channel_order.first_with.Given as goal

abbrev pub invariant-loop-at : goal.invariant-loop-at
invariant-loop-at g l = (k : ℕ) (other : Waiting g.row.T.Denot) → k < l.at → slice_get l.waiting.items k ≡ Some other → has l.channel l.number other ≡ false
