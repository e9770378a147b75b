use Rattle.mailbox.proofs.Steps.{posts_own, refuses}
use Rattle.mailbox.proofs.port.Port.close.Goals as goal

pub push_as-requires-clause-rule : goal.push_as-requires-clause-rule
push_as-requires-clause-rule g c = (posts_own _ _ _ _ c.args.self.knows, refuses _ _)
