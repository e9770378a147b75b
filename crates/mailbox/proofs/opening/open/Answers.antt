use Rattle.mailbox.proofs.Steps.{begins}
use Rattle.mailbox.proofs.opening.open.Goals as goal

pub ruled-requires-clause-rule : goal.ruled-requires-clause-rule
ruled-requires-clause-rule g c = begins
