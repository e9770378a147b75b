-- The input is the one that was handed in.
use Rattle.std.proofs.Common.{sym, subst}
use Rattle.lane.specs.Stands.{TakesInput}
use Rattle.lane.proofs.lane.Lane.take_owned.Goals as goal

pub returns-in-Ok-clause-answered : goal.returns-in-Ok-clause-answered
returns-in-Ok-clause-answered c =
    subst (λ input. TakesInput c.args.self.now input c.in-Ok.answer c.answer_grant.new.self) (sym c.in-Grant.is) c.in-Ok.ensures.answered

pub returns-in-Burst-clause-answered : goal.returns-in-Burst-clause-answered
returns-in-Burst-clause-answered c =
    subst (λ input. TakesInput c.args.self.now input c.take_burst.result c.take_burst.new.self) (sym c.in-Burst.is) c.take_burst.ensures.answered
