use Rattle.receiver.proofs.OrderPlaces.{IsLeftOver}
use Rattle.receiver.proofs.order.check_order.Given as goal

abbrev pub invariant-loop-k : goal.invariant-loop-k
invariant-loop-k l = IsLeftOver l.fn.lengths l.order l.k l.left
