use Rattle.std.proofs.Common.{ℕ, ◌+◌, ◌<◌, ◌≤◌, ◌⊎◌, subst}
use Rattle.flow_core.specs.Fates.{IsLost}
use Rattle.flow_core.specs.Events.{IsAhead}
use Rattle.flow_core.proofs.Outcome.{expected-unique}
use Rattle.loss_rule.specs.Rule.{HaveComeTo}
use Rattle.loss_rule.proofs.LosingJust.{slid-lost}
use Rattle.loss_rule.specs.declared.rule.LossRule.TheVariants.{PassedOrSlid}
use Rattle.loss_rule.proofs.RuledTurns.{ruled-reached}
use Rattle.loss_rule.proofs.Arrivals.{slid-looks, by-slid}
use Rattle.loss_rule.proofs.Prompt.{kept_or_lost, up_to_date-after}
use Rattle.loss_rule.proofs.Sliding.{none-beyond, width-settled, arrived-kept}
use Rattle.loss_rule.proofs.laws.sliding_flow_is_never_stuck.Goals as goal

pub returns-clause-beyond : goal.returns-clause-beyond
returns-clause-beyond c = λ flow before events own lasts noted fates after channel k segment back answers positive are ruled leads.
    let r = ruled-reached PassedOrSlid flow before events lasts fates are in
    none-beyond flow positive lasts fates channel segment own answers noted after r
    (by-slid flow lasts fates channel segment own answers noted after r leads ruled) k back

pub returns-clause-settled : goal.returns-clause-settled
returns-clause-settled c = λ flow before events own lasts noted fates after channel x i j segment answers positive are ruled leads expected ahead far.
    let r = ruled-reached PassedOrSlid flow before events lasts fates are in
    kept_or_lost after j (width-settled flow positive lasts fates channel segment own answers noted after r
    (by-slid flow lasts fates channel segment own answers noted after r leads ruled) x i j expected ahead far)

pub returns-clause-kept : goal.returns-clause-kept
returns-clause-kept c = λ flow before events own lasts noted fates after channel x i segment answers positive are ruled leads has expected ahead.
    let r = ruled-reached PassedOrSlid flow before events lasts fates are in
    arrived-kept flow positive lasts fates channel segment own answers noted after r
    (by-slid flow lasts fates channel segment own answers noted after r leads ruled) x i
    (up_to_date-after PassedOrSlid flow slid-looks before events lasts fates are) has leads expected ahead

pub returns-clause-just : goal.returns-clause-just
returns-clause-just c = λ flow before events own lasts noted fates after channel x i segment answers positive narrow are ruled leads has expected lost.
    let r = ruled-reached PassedOrSlid flow before events lasts fates are in
    let known = up_to_date-after PassedOrSlid flow slid-looks before events lasts fates are in
    let t = by-slid flow lasts fates channel segment own answers noted after r leads ruled in
    let at = expected-unique fates t.x x t.expected expected in
    subst (λ (k : ℕ). IsLost fates i ⊎ ((least : ℕ) × HaveComeTo flow noted least × (i < least))
    ⊎ ((index : ℕ) × IsAhead flow.first k segment.head.sequence index × (i + flow.width ≤ index))) at
    (slid-lost flow positive narrow lasts noted fates after channel i segment own answers known r has t lost)
