use Rattle.std.proofs.Common.{ap}
use Rattle.mailbox.proofs.Steps.{merges}
use Rattle.mailbox.proofs.settling.join.Goals as goal

pub absorb-requires-clause-rule : goal.absorb-requires-clause-rule
absorb-requires-clause-rule g c = merges _ _ _ _ c.requires.taker (ap (λ v. v.takes) c.args.closed.knows)
