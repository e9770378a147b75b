use Rattle.std.proofs.Common.{◌+◌, arith}
use Rattle.std.proofs.lemmas.Grind.{common_steps}
use Rattle.uses.proofs.delivery_flows.consuming.begin.Goals as goal

pub loop-taker-preserved : goal.loop-taker-preserved
loop-taker-preserved c = (grind (arith, common_steps), λ k d below. let h = c.loop-taker.invariant.1 (k + 1) d in grind (arith, common_steps, h))
