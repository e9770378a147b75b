-- A settled flow has counted what the definitions say.
use Rattle.std.proofs.Common.{sym, subst}
use Rattle.flow_core.specs.declared.counts.FlowCounts.{FlowCounts}
use Rattle.flow_core.proofs.FlowOutcomes.{drained-outcome}
use Rattle.bonded_flows.specs.ByRule.{HasGivenByRule}
use Rattle.bonded_flows.proofs.SettledFlows.{all-taken}
use Rattle.bonded_flows.proofs.bonded_flow.BondedFlow.counts.Goals as goal

pub returns : goal.returns
returns c = λ check setup comings given has settled.
    let taken = all-taken check setup c.args.self.now comings given has settled in
    subst (λ (counts : FlowCounts). HasGivenByRule check setup comings given counts) (sym c.counts.ensures)
    (record {
      events = has.events;
      lasts = has.lasts;
      fates = has.fates;
      ruled = has.ruled;
      outcome = drained-outcome check setup.flow_record c.args.self.now.flow has.events taken.answers taken.y given taken.stands settled.up_to_date.drained;
    })
