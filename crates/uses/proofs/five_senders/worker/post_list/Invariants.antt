use Rattle.std.proofs.Common.{◌≡◌, ◌++◌}
use Rattle.std.specs.Vec.Iter.{into_iter_items}
use Rattle.mailbox.specs.Ports.{address, posted}
use Rattle.uses.proofs.five_senders.worker.post_list.Given as goal

abbrev pub invariant-loop-item : goal.invariant-loop-item
invariant-loop-item g l =
    (address l.port ≡ address l.fn.port) × (posted l.port ++ into_iter_items l.item-iterator ≡ posted l.fn.port ++ l.fn.list.items)
