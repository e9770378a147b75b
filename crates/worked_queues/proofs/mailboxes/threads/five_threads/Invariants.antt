use Rattle.std.proofs.Common.{◌≡◌}
use Rattle.mailbox.specs.Mouths.{places}
use Rattle.worked_queues.proofs.mailboxes.threads.five_threads.Given as goal

abbrev pub invariant-loop : goal.invariant-loop
invariant-loop g l = places l.mouth ≡ places l.initial.mouth
