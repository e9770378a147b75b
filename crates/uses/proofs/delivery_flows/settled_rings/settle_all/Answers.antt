use Rattle.std.proofs.Common.{◌+◌, arith}
use Rattle.std.proofs.lemmas.Grind.{common_steps}
use Rattle.uses.proofs.delivery_flows.settled_rings.settle_all.Goals as goal

pub settle_one-requires-clause-closed : goal.settle_one-requires-clause-closed
settle_one-requires-clause-closed c =
    let first = c.loop-feeder.invariant.1 0 c.in-Some-next.consumed in
    grind (arith, common_steps, first)

pub loop-feeder-preserved : goal.loop-feeder-preserved
loop-feeder-preserved c = (
  grind (arith, common_steps, c.loop-feeder.invariant.0),
  λ k d below. let h = c.loop-feeder.invariant.1 (k + 1) d in grind (arith, common_steps, h),
  grind (arith, common_steps, c.loop-feeder.invariant.2),
)
