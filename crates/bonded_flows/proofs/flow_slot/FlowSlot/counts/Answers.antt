-- A flow that wasn't begun has counted nothing.
use Rattle.std.proofs.Common.{sym, subst}
use Rattle.flow_core.specs.declared.counts.FlowCounts.{FlowCounts}
use Rattle.bonded_flows.specs.ByRule.{HasGivenByRule}
use Rattle.bonded_flows.proofs.SlotStates.{not-begun, counted-nothing}
use Rattle.bonded_flows.proofs.flow_slot.FlowSlot.counts.Goals as goal

pub returns-in-None : goal.returns-in-None
returns-in-None c = λ check setup comings given stands rests.
    subst (λ (counts : FlowCounts). HasGivenByRule check setup comings given counts) (sym c.none.ensures)
    (counted-nothing setup comings given (not-begun check setup c.args.self.now comings given stands c.in-None.is) check)
