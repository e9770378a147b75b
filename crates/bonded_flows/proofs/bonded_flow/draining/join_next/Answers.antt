-- A segment that is one whole frame was next.
use Rattle.std.proofs.Common.{◌∷◌, [], subst}
use Rattle.flow_core.specs.declared.event.StepAsItIs.{StepAsItIs}
use Rattle.flow_core.specs.AsItIs.{AdvancesAsItIs}
use Rattle.bonded_flows.proofs.bonded_flow.draining.join_next.Goals as goal

pub returns-in-Whole-clause-joins : goal.returns-in-Whole-clause-joins
returns-in-Whole-clause-joins g c =
    let check = g.C.HeaderCheck.accepts c.args.check.now in
    let step = subst (λ (s : StepAsItIs). AdvancesAsItIs check c.args.flow.now s c.advance_as_it_is.new.self) c.in-Whole.is c.in_ok-frame.ensures.step in (
      λ drained. (let held = step.0.next in cc),
      (c.in-Whole.frame ∷ [], c.frame.ensures, step.1),
    )
