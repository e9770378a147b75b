use Rattle.std.proofs.Common.{◌≡◌}
use Rattle.mailbox.specs.Ports.{address}
use Rattle.worked_queues.proofs.mailboxes.threads.post_hundred.Given as goal

abbrev pub invariant-loop-item : goal.invariant-loop-item
invariant-loop-item g l = address l.port ≡ address l.fn.port

abbrev pub invariant-loop : goal.invariant-loop
invariant-loop g l = address l.port ≡ address l.fn.port
