use Rattle.std.proofs.Common.{sym, subst}
use Rattle.bonded_flows.specs.declared.bonded_flow.BondedFlow.{BondedFlow}
use Rattle.bonded_flows.specs.Stands.{HasCome}
use Rattle.bonded_flows.proofs.SlotStates.{begun}
use Rattle.bonded_flows.proofs.SlotTurns.{slot-takes, on-ok}
use Rattle.bonded_flows.proofs.flow_slot.FlowSlot.decide_prepared.Goals as goal

pub returns-clause-takes : goal.returns-clause-takes
returns-clause-takes g c =
    slot-takes _ c.args.self.now c.in-Some.flow c.in-Some.is c.requires.in_use _ c.args.out.now c.decide.new.out _ c.deref_mut.result.now c.decide.new.self
    c.deref_mut.ensures.value c.decide.ensures.takes

pub returns-clause-told : goal.returns-clause-told
returns-clause-told g c =
    on-ok c.decide.result
    (λ lost is setup comings given stands. is setup comings given
    (subst (λ (flow : BondedFlow). HasCome (g.C.HeaderCheck.accepts c.args.check.now) setup flow comings given) (sym c.deref_mut.ensures.value)
    (begun (g.C.HeaderCheck.accepts c.args.check.now) setup c.args.self.now c.in-Some.flow comings given stands c.in-Some.is)))
    c.decide.ensures.told
