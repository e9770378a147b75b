use Rattle.std.proofs.Common.{[], sym, subst}
use Rattle.bonded_flows.specs.declared.bonded_flow.BondedFlow.{BondedFlow}
use Rattle.bonded_flows.specs.Slots.{setup_in}
use Rattle.bonded_flows.specs.Stands.{HasCome}
use Rattle.bonded_flows.proofs.flow_slot.FlowSlot.new_flow.Goals as goal

pub returns-clause-stands : goal.returns-clause-stands
returns-clause-stands c = λ check.
    subst (λ (flow : BondedFlow). HasCome check (setup_in c.args.self.now) flow [] []) (sym c.in_ok-new.ensures.ok) (c.in_ok-flow.ensures.stands check)
