use Rattle.std.proofs.Common.{[], refl}
use Rattle.flow_core.proofs.OneFlow.{written_other}
use Rattle.bonded_flows.specs.Slots.{IsPrepared, IsClosing}
use Rattle.bonded_flows.proofs.SlotTurns.{on-ok}
use Rattle.bonded_flows.proofs.TableTurns.{slot-here, none-closes, slot-in_use, table-comes, still-in_use, at-written}
use Rattle.bonded_flows.proofs.flow_table.FlowTable.prepare.Goals as goal

pub prepare-requires : goal.prepare-requires
prepare-requires g c =
    slot-in_use g.C.HeaderCheck.accepts c.args.self.now c.args.flow c.index_mut.result.now
    (slot-here c.args.self.now.slots.items c.args.flow c.index_mut.result.now c.requires.exists c.index_mut.ensures.value) c.requires.in_use

pub returns-clause-takes : goal.returns-clause-takes
returns-clause-takes g c =
    table-comes g.C.HeaderCheck.accepts c.args.self.now _ c.args.flow c.index_mut.result.now c.prepare.new.self
    (slot-here c.args.self.now.slots.items c.args.flow c.index_mut.result.now c.requires.exists c.index_mut.ensures.value) refl refl c.requires.in_use g.O.Consumer.after c.args.out.now c.prepare.new.out [] c.prepare.ensures.takes

pub returns-clause-prepared : goal.returns-clause-prepared
returns-clause-prepared g c =
    on-ok c.prepare.result
    (λ _ is slot there. at-written IsPrepared c.args.self.now.slots.items c.args.flow c.prepare.new.self slot c.requires.exists is there) c.prepare.ensures.prepared

pub returns-clause-closing : goal.returns-clause-closing
returns-clause-closing g c = λ is slot there.
    at-written IsClosing c.args.self.now.slots.items c.args.flow c.prepare.new.self slot c.requires.exists (c.prepare.ensures.closing is) there

pub returns-clause-in_use : goal.returns-clause-in_use
returns-clause-in_use g c =
    still-in_use g.C.HeaderCheck.accepts g.O.Consumer.after c.args.self.now _ c.args.out.now c.prepare.new.out c.requires.in_use _ (returns-clause-takes g c)

pub returns-clause-others : goal.returns-clause-others
returns-clause-others g c = λ other apart. written_other c.args.self.now.slots.items c.args.flow other c.prepare.new.self apart

pub returns-clause-open_still : goal.returns-clause-open_still
returns-clause-open_still g c =
    none-closes c.args.self.now.slots.items c.args.flow c.index_mut.result.now c.prepare.new.self
    (slot-here c.args.self.now.slots.items c.args.flow c.index_mut.result.now c.requires.exists c.index_mut.ensures.value) c.prepare.ensures.open_still

pub returns-clause-refused : goal.returns-clause-refused
returns-clause-refused g c = λ closing.
    c.prepare.ensures.refused (closing c.index_mut.result.now (slot-here c.args.self.now.slots.items c.args.flow c.index_mut.result.now c.requires.exists c.index_mut.ensures.value))
