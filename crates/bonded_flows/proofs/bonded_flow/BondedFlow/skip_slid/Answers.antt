use Rattle.std.proofs.Common.{sym, subst}
use Rattle.flow_core.specs.declared.event.Applied.TheVariants.{DecisionSkip}
use Rattle.loss_rule.specs.Numbers.{IsSlidTo}
use Rattle.bonded_flows.specs.Taking.{SkipsSlid}
use Rattle.bonded_flows.proofs.SlidWindows.{slid-none, slid-some}
use Rattle.bonded_flows.proofs.bonded_flow.BondedFlow.skip_slid.Goals as goal

pub returns-in_err-slid-clause-skips : goal.returns-in_err-slid-clause-skips
returns-in_err-slid-clause-skips c =
    let self = c.args.self.now in
    let none = c.in_err-slid.was in
    subst (λ slid. SkipsSlid self c.args.number slid self) (sym c.from_residual.ensures)
    (slid-none self c.args.number c.expected.result c.requires.number c.requires.up_to_date c.expected.ensures.number
    (subst (IsSlidTo c.expected.result self.width c.args.number) none c.slid_to.ensures))

pub returns-clause-skips : goal.returns-clause-skips
returns-clause-skips c =
    let self = c.args.self.now in
    let some = c.in_ok-slid.was in
    slid-some self c.args.number c.expected.result c.requires.number c.requires.up_to_date c.expected.ensures.number
    c.in_ok-slid.slid c.skip_to.new.self (DecisionSkip c.skip_to.result)
    (subst (IsSlidTo c.expected.result self.width c.args.number) some c.slid_to.ensures) c.skip_to.ensures
