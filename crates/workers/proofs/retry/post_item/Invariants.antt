use Rattle.std.proofs.Common.{◌≡◌}
use Rattle.mailbox.specs.Ports.{address, posted}
use Rattle.workers.proofs.retry.post_item.Given as goal

abbrev pub invariant-loop : goal.invariant-loop
invariant-loop g l =
    (address l.port ≡ address l.fn.port) × (posted l.port ≡ posted l.fn.port) × (l.item ≡ l.fn.item)
