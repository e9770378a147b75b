use Rattle.std.proofs.Common.{rules}
use Rattle.uses.proofs.five_senders.taker.with.Goals as goal

pub returns : goal.returns
returns g c = (c.in_ok-gathered.gathered, c.in_ok-gathered.was, search rules)
