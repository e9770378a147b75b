-- The map has as many grants as are outstanding.
use Rattle.std.proofs.Common.{◌∙◌}
use Rattle.lane.proofs.LaneTaking.{as-many}
use Rattle.lane.proofs.lane.Lane.outstanding.Goals as goal

pub returns : goal.returns
returns c setup taken stands = c.len.ensures.len ∙ as-many setup taken c.args.self.now stands
