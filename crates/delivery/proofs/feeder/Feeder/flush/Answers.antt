use Rattle.std.proofs.Common.{[], ◌∷◌, ◌++◌, arith}
use Rattle.std.proofs.lemmas.Grind.{common_steps}
use Rattle.delivery.proofs.Sending.{sending}
use Rattle.delivery.proofs.feeder.Feeder.flush.Goals as goal

pub loop-self-preserved : goal.loop-self-preserved
loop-self-preserved c =
    let before = c.loop-self.invariant in (
      grind (arith, common_steps, before.0),
      grind (arith, common_steps, sending, before.1),
      (
        before.2.0 ++ c.in-Some.frame.items ∷ [],
        grind (arith, common_steps, sending, before.2.1),
        grind (arith, common_steps, sending, before.2.2),
      ),
    )
