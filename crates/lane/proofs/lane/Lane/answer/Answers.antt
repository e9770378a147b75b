-- The input is the one that was looked at.
use Rattle.std.proofs.Common.{IfOk, OnErr, sym, subst}
use Rattle.lane.specs.Stands.{TakesInput, CouldTake}
use Rattle.lane.proofs.lane.Lane.answer.Goals as goal

pub returns-in-Grant-clause-answered : goal.returns-in-Grant-clause-answered
returns-in-Grant-clause-answered c =
    subst (λ input. IfOk c.answer_grant.result (λ answer. TakesInput c.args.self.now input answer c.answer_grant.new.self))
    (sym c.in-Grant.is) c.answer_grant.ensures.answered

pub returns-in-Grant-clause-memory : goal.returns-in-Grant-clause-memory
returns-in-Grant-clause-memory c =
    subst (λ input. OnErr c.answer_grant.result (CouldTake c.args.self.now input)) (sym c.in-Grant.is) c.answer_grant.ensures.memory

pub returns-in-Burst-clause-answered : goal.returns-in-Burst-clause-answered
returns-in-Burst-clause-answered c =
    subst (λ input. IfOk c.answer_burst.result (λ answer. TakesInput c.args.self.now input answer c.answer_burst.new.self))
    (sym c.in-Burst.is) c.answer_burst.ensures.answered

pub returns-in-Burst-clause-memory : goal.returns-in-Burst-clause-memory
returns-in-Burst-clause-memory c =
    subst (λ input. OnErr c.answer_burst.result (CouldTake c.args.self.now input)) (sym c.in-Burst.is) c.answer_burst.ensures.memory
