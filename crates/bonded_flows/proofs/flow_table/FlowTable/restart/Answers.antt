use Rattle.std.proofs.Common.{[], refl}
use Rattle.flow_core.proofs.OneFlow.{written_other}
use Rattle.bonded_flows.specs.Slots.{IsAtRest}
use Rattle.bonded_flows.proofs.SlotTurns.{on-ok}
use Rattle.bonded_flows.proofs.TableTurns.{slot-here, slot-in_use, table-comes, table-anew, in_use-restarted, at-written, on-any_err}
use Rattle.bonded_flows.proofs.flow_table.FlowTable.restart.Goals as goal

pub restart-requires-clause-in_use : goal.restart-requires-clause-in_use
restart-requires-clause-in_use g c =
    slot-in_use g.C.HeaderCheck.accepts c.args.self.now c.args.flow c.index_mut.result.now
    (slot-here c.args.self.now.slots.items c.args.flow c.index_mut.result.now c.requires.exists c.index_mut.ensures.value) c.requires.in_use

pub returns-clause-begins_anew : goal.returns-clause-begins_anew
returns-clause-begins_anew g c =
    on-ok c.restart.result
    (λ counts anew. table-anew g.C.HeaderCheck.accepts c.args.self.now _ c.args.flow c.index_mut.result.now c.restart.new.self
    (slot-here c.args.self.now.slots.items c.args.flow c.index_mut.result.now c.requires.exists c.index_mut.ensures.value) refl refl c.requires.in_use g.O.Consumer.after c.args.out.now c.restart.new.out c.args.first counts anew) c.restart.ensures.anew

pub returns-clause-not_taken : goal.returns-clause-not_taken
returns-clause-not_taken g c =
    on-any_err c.restart.result
    (λ takes. table-comes g.C.HeaderCheck.accepts c.args.self.now _ c.args.flow c.index_mut.result.now c.restart.new.self
    (slot-here c.args.self.now.slots.items c.args.flow c.index_mut.result.now c.requires.exists c.index_mut.ensures.value) refl refl c.requires.in_use g.O.Consumer.after c.args.out.now c.restart.new.out [] takes) c.restart.ensures.takes

pub returns-clause-at_rest : goal.returns-clause-at_rest
returns-clause-at_rest g c =
    on-ok c.restart.result
    (λ _ is slot there. at-written IsAtRest c.args.self.now.slots.items c.args.flow c.restart.new.self slot c.requires.exists is there) c.restart.ensures.at_rest

pub returns-clause-in_use : goal.returns-clause-in_use
returns-clause-in_use g c =
    in_use-restarted g.C.HeaderCheck.accepts g.O.Consumer.after c.args.self.now _ c.args.out.now c.restart.new.out c.requires.in_use c.args.flow c.args.first c.restart.result (returns-clause-begins_anew g c)
    (returns-clause-not_taken g c)

pub returns-clause-others : goal.returns-clause-others
returns-clause-others g c = λ other apart. written_other c.args.self.now.slots.items c.args.flow other c.restart.new.self apart
