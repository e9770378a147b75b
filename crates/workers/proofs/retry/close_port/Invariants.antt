use Rattle.std.proofs.Common.{◌≡◌}
use Rattle.mailbox.specs.Ports.{address, posted}
use Rattle.workers.proofs.retry.close_port.Given as goal

abbrev pub invariant-loop : goal.invariant-loop
invariant-loop g l = (address l.port ≡ address l.fn.port) × (posted l.port ≡ posted l.fn.port)
