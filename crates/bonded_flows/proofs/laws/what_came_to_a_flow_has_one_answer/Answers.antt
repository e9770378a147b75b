use Rattle.std.proofs.Common.{List, subst}
use Rattle.flow_core.specs.Events.{FlowEvent}
use Rattle.flow_core.specs.Outcome.{IsFlowOutcome}
use Rattle.bonded_flows.proofs.OneAnswer.{events-once, told-once, lost-once, same-close}
use Rattle.bonded_flows.proofs.laws.what_came_to_a_flow_has_one_answer.Goals as goal

pub returns-clause-told : goal.returns-clause-told
returns-clause-told c = told-once

pub returns-clause-lost : goal.returns-clause-lost
returns-clause-lost c = lost-once

pub returns-clause-given : goal.returns-clause-given
returns-clause-given c = λ check setup comings frames others counts more p q.
    let same = events-once setup comings p.events q.events p.lasts q.lasts p.fates q.fates p.ruled q.ruled in
    c.flow_has_at_most_one_outcome.ensures check setup.flow_record q.events frames others counts more
    (subst (λ (e : List FlowEvent). IsFlowOutcome check setup.flow_record e frames counts) same p.outcome) q.outcome

pub returns-clause-gave : goal.returns-clause-gave
returns-clause-gave c = λ check setup comings frames others counts more p q.
    let same = events-once setup comings p.events q.events p.lasts q.lasts p.fates q.fates p.ruled q.ruled in
    let both = same-close check setup p.events q.events p.n frames counts same (p.outcome, p.closed) in
    c.closed_flow_has_one_outcome.ensures check setup.flow_record p.n q.n q.events frames others counts more both.0 q.outcome both.1 q.closed
