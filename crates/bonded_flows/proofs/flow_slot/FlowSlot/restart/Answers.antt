use Rattle.std.proofs.Common.{Option, sym, subst}
use Rattle.std.specs.Global.{Box}
use Rattle.flow_core.specs.declared.counts.FlowCounts.{FlowCounts}
use Rattle.bonded_flows.specs.declared.bonded_flow.BondedFlow.{BondedFlow}
use Rattle.bonded_flows.specs.Slots.{BeginsAnew}
use Rattle.bonded_flows.proofs.FlowTurns.{on-any_err}
use Rattle.bonded_flows.proofs.SlotTurns.{slot-takes, anew, unbegun-anew, closed-anew}
use Rattle.bonded_flows.proofs.flow_slot.FlowSlot.restart.Goals as goal

pub returns-in_default-clause-anew : goal.returns-in_default-clause-anew
returns-in_default-clause-anew g c =
    let check = g.C.HeaderCheck.accepts c.args.check.now in
    let slot = c.args.self.now in
    subst (λ (counts : FlowCounts). BeginsAnew g.O.Consumer.after check slot c.args.out.now c.args.first counts (record (anew check slot c.args.first c.requires.number) { flow = slot.flow }) c.args.out.now)
    (sym c.none.ensures)
    (subst (λ (f : Option (Box BondedFlow)). BeginsAnew g.O.Consumer.after check slot c.args.out.now c.args.first _ (record (anew check slot c.args.first c.requires.number) { flow = f }) c.args.out.now)
    (sym c.in_default.is)
    (unbegun-anew check slot c.args.first c.requires.number g.O.Consumer.after c.args.out.now c.in_default.is))

pub returns-in_err-counts-clause-takes : goal.returns-in_err-counts-clause-takes
returns-in_err-counts-clause-takes g c =
    on-any_err c.from_residual.result
    (slot-takes _ c.args.self.now c.in-Some.flow c.in-Some.is c.requires.in_use g.O.Consumer.after c.args.out.now c.close.new.out _ c.deref_mut.result.now c.close.new.flow
    c.deref_mut.ensures.value c.in_err-counts.ensures.takes)

pub returns-clause-anew : goal.returns-clause-anew
returns-clause-anew g c =
    closed-anew (g.C.HeaderCheck.accepts c.args.check.now) c.args.self.now c.args.first c.requires.number g.O.Consumer.after c.args.out.now c.in-Some.flow c.close.new.out
    c.deref_mut.result.now c.in_ok-counts.counts c.in-Some.is c.requires.in_use c.deref_mut.ensures.value c.in_ok-counts.ensures.closes
