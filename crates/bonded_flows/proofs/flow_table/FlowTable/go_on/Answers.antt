use Rattle.std.proofs.Common.{[], refl}
use Rattle.flow_core.proofs.OneFlow.{written_other}
use Rattle.bonded_flows.specs.Slots.{IsAtRest, IsClosing}
use Rattle.bonded_flows.proofs.SlotTurns.{on-ok}
use Rattle.bonded_flows.proofs.TableTurns.{slot-here, none-closes, slot-in_use, table-comes, still-in_use, at-written}
use Rattle.bonded_flows.proofs.flow_table.FlowTable.go_on.Goals as goal

pub go_on-requires : goal.go_on-requires
go_on-requires g c =
    slot-in_use g.C.HeaderCheck.accepts c.args.self.now c.args.flow c.index_mut.result.now
    (slot-here c.args.self.now.slots.items c.args.flow c.index_mut.result.now c.requires.exists c.index_mut.ensures.value) c.requires.in_use

pub returns-clause-takes : goal.returns-clause-takes
returns-clause-takes g c =
    table-comes g.C.HeaderCheck.accepts c.args.self.now _ c.args.flow c.index_mut.result.now c.go_on.new.self
    (slot-here c.args.self.now.slots.items c.args.flow c.index_mut.result.now c.requires.exists c.index_mut.ensures.value) refl refl c.requires.in_use g.O.Consumer.after c.args.out.now c.go_on.new.out [] c.go_on.ensures.takes

pub returns-clause-at_rest : goal.returns-clause-at_rest
returns-clause-at_rest g c =
    on-ok c.go_on.result
    (λ _ is slot there. at-written IsAtRest c.args.self.now.slots.items c.args.flow c.go_on.new.self slot c.requires.exists is there) c.go_on.ensures.at_rest

pub returns-clause-closing : goal.returns-clause-closing
returns-clause-closing g c = λ is slot there.
    at-written IsClosing c.args.self.now.slots.items c.args.flow c.go_on.new.self slot c.requires.exists (c.go_on.ensures.closing is) there

pub returns-clause-in_use : goal.returns-clause-in_use
returns-clause-in_use g c =
    still-in_use g.C.HeaderCheck.accepts g.O.Consumer.after c.args.self.now _ c.args.out.now c.go_on.new.out c.requires.in_use _ (returns-clause-takes g c)

pub returns-clause-others : goal.returns-clause-others
returns-clause-others g c = λ other apart. written_other c.args.self.now.slots.items c.args.flow other c.go_on.new.self apart

pub returns-clause-open_still : goal.returns-clause-open_still
returns-clause-open_still g c =
    none-closes c.args.self.now.slots.items c.args.flow c.index_mut.result.now c.go_on.new.self
    (slot-here c.args.self.now.slots.items c.args.flow c.index_mut.result.now c.requires.exists c.index_mut.ensures.value) c.go_on.ensures.open_still

pub returns-clause-refused : goal.returns-clause-refused
returns-clause-refused g c = λ closing.
    c.go_on.ensures.refused (closing c.index_mut.result.now (slot-here c.args.self.now.slots.items c.args.flow c.index_mut.result.now c.requires.exists c.index_mut.ensures.value))
