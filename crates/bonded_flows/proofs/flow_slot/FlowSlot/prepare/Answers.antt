use Rattle.std.proofs.Common.{◌≡◌, refl, sym, subst}
use Rattle.std.specs.Box.{with_value}
use Rattle.bonded_flows.specs.declared.bonded_flow.BondedFlow.{BondedFlow}
use Rattle.bonded_flows.specs.declared.pending.Pending.TheVariants.{Close}
use Rattle.bonded_flows.proofs.SlotTurns.{slot-takes, on-ok, closing-of}
use Rattle.bonded_flows.proofs.flow_slot.FlowSlot.prepare.Goals as goal

pub returns-clause-takes : goal.returns-clause-takes
returns-clause-takes g c =
    slot-takes _ c.args.self.now c.in-Some.flow c.in-Some.is c.requires g.O.Consumer.after c.args.out.now c.ready.new.out _ c.deref_mut.result.now c.ready.new.flow
    c.deref_mut.ensures.value c.ready.ensures.takes

pub returns-clause-prepared : goal.returns-clause-prepared
returns-clause-prepared g c = on-ok c.ready.result (λ _ settled. (with_value c.in-Some.flow c.ready.new.flow, refl, settled)) c.ready.ensures.settled

pub returns-clause-closing : goal.returns-clause-closing
returns-clause-closing g c = λ is. (with_value c.in-Some.flow c.ready.new.flow, refl, c.ready.ensures.closing is)

pub returns-clause-open_still : goal.returns-clause-open_still
returns-clause-open_still g c = λ closing. (
  c.in-Some.flow,
  c.in-Some.is,
  subst (λ (flow : BondedFlow). flow.pending ≡ Close) c.deref_mut.ensures.value
      (c.ready.ensures.open_still (closing-of _ (with_value c.in-Some.flow c.ready.new.flow) refl closing)),
)

pub returns-clause-refused : goal.returns-clause-refused
returns-clause-refused g c = λ closing.
    c.ready.ensures.refused (subst (λ (flow : BondedFlow). flow.pending ≡ Close) (sym c.deref_mut.ensures.value) (closing-of _ c.in-Some.flow c.in-Some.is closing))
