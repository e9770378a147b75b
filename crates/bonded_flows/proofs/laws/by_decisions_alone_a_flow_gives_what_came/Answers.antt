use Rattle.std.proofs.Common.{subst, map}
use Rattle.flow_core.specs.Fates.{no_fates}
use Rattle.loss_rule.specs.declared.rule.LossRule.{LossRule}
use Rattle.loss_rule.specs.Rule.{no_lasts, own_event, Rules}
use Rattle.loss_rule.proofs.DecidedRule.{decided-events}
use Rattle.bonded_flows.specs.FlowSetup.{ruled_flow}
use Rattle.bonded_flows.proofs.OneAnswer.{same-close}
use Rattle.bonded_flows.proofs.laws.by_decisions_alone_a_flow_gives_what_came.Goals as goal

pub returns : goal.returns
returns c = λ check setup comings gave counts rule gives.
    let flow = ruled_flow setup in
    let ruled = subst (λ (by : LossRule). Rules by flow (no_lasts flow) no_fates comings gives.events gives.lasts gives.fates) rule gives.ruled in
    let same = decided-events flow (no_lasts flow) no_fates comings gives.events gives.lasts gives.fates ruled in
    let both = same-close check setup gives.events (map own_event comings) gives.n gave counts same (gives.outcome, gives.closed) in
    (gives.n, both.0, both.1)
