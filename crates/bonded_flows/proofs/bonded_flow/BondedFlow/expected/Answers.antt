use Rattle.std.proofs.Common.{◌∙◌}
use Rattle.bonded_flows.proofs.SettledFlows.{expects-by_rule}
use Rattle.bonded_flows.proofs.bonded_flow.BondedFlow.expected.Goals as goal

pub returns-clause-number : goal.returns-clause-number
returns-clause-number c = λ check setup comings given events lasts fates x has settled ruled expected.
    c.expected.ensures.number ∙ expects-by_rule check setup c.args.self.now comings given has settled events lasts fates x ruled expected
