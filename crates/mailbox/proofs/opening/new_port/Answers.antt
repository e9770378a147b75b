use Rattle.std.proofs.Common.{ap}
use Rattle.mailbox.proofs.Steps.{forks}
use Rattle.mailbox.proofs.opening.new_port.Goals as goal

pub another-pass-requires-clause-rule : goal.another-pass-requires-clause-rule
another-pass-requires-clause-rule g c = forks _ _ (ap (λ v. v.takes) c.requires.next.0)
