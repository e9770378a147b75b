use Rattle.std.proofs.Common.{[], ◌∷◌, refl}
use Rattle.loss_rule.specs.Rule.{handed_in}
use Rattle.flow_core.proofs.OneFlow.{written_other}
use Rattle.bonded_flows.specs.ByRule.{decision_event}
use Rattle.bonded_flows.specs.Slots.{IsAtRest, IsClosing}
use Rattle.bonded_flows.proofs.SlotTurns.{on-ok}
use Rattle.bonded_flows.proofs.TableTurns.{slot-here, none-closes, slot-in_use, table-comes, in_use-decided, at-written, on-err, leaves}
use Rattle.bonded_flows.proofs.flow_table.FlowTable.decide.Goals as goal

pub decide-requires-clause-in_use : goal.decide-requires-clause-in_use
decide-requires-clause-in_use g c =
    slot-in_use g.C.HeaderCheck.accepts c.args.self.now c.args.flow c.index_mut.result.now
    (slot-here c.args.self.now.slots.items c.args.flow c.index_mut.result.now c.requires.exists c.index_mut.ensures.value) c.requires.in_use

pub returns-clause-takes : goal.returns-clause-takes
returns-clause-takes g c =
    on-ok c.decide.result
    (λ _ takes. table-comes g.C.HeaderCheck.accepts c.args.self.now _ c.args.flow c.index_mut.result.now c.decide.new.self
    (slot-here c.args.self.now.slots.items c.args.flow c.index_mut.result.now c.requires.exists c.index_mut.ensures.value) refl refl c.requires.in_use g.O.Consumer.after c.args.out.now c.decide.new.out (handed_in (decision_event c.args.decision) ∷ []) takes) c.decide.ensures.takes

pub returns-clause-told : goal.returns-clause-told
returns-clause-told g c =
    on-ok c.decide.result
    (λ lost is setup comings given stands. is setup comings given (stands c.index_mut.result.now (slot-here c.args.self.now.slots.items c.args.flow c.index_mut.result.now c.requires.exists c.index_mut.ensures.value))) c.decide.ensures.told

pub returns-clause-not_taken : goal.returns-clause-not_taken
returns-clause-not_taken g c =
    on-err c.decide.result
    (λ fault. leaves fault
    (λ takes. table-comes g.C.HeaderCheck.accepts c.args.self.now _ c.args.flow c.index_mut.result.now c.decide.new.self
    (slot-here c.args.self.now.slots.items c.args.flow c.index_mut.result.now c.requires.exists c.index_mut.ensures.value) refl refl c.requires.in_use g.O.Consumer.after c.args.out.now c.decide.new.out [] takes)
    (λ takes. table-comes g.C.HeaderCheck.accepts c.args.self.now _ c.args.flow c.index_mut.result.now c.decide.new.self
    (slot-here c.args.self.now.slots.items c.args.flow c.index_mut.result.now c.requires.exists c.index_mut.ensures.value) refl refl c.requires.in_use g.O.Consumer.after c.args.out.now c.decide.new.out (handed_in (decision_event c.args.decision) ∷ []) takes)) c.decide.ensures.not_taken

pub returns-clause-at_rest : goal.returns-clause-at_rest
returns-clause-at_rest g c =
    on-ok c.decide.result
    (λ _ is slot there. at-written IsAtRest c.args.self.now.slots.items c.args.flow c.decide.new.self slot c.requires.exists is there) c.decide.ensures.at_rest

pub returns-clause-in_use : goal.returns-clause-in_use
returns-clause-in_use g c =
    in_use-decided g.C.HeaderCheck.accepts g.O.Consumer.after c.args.self.now _ c.args.out.now c.decide.new.out c.requires.in_use c.args.flow _ c.decide.result (returns-clause-takes g c)
    (returns-clause-not_taken g c)

pub returns-clause-others : goal.returns-clause-others
returns-clause-others g c = λ other apart. written_other c.args.self.now.slots.items c.args.flow other c.decide.new.self apart

pub returns-clause-open_still : goal.returns-clause-open_still
returns-clause-open_still g c =
    none-closes c.args.self.now.slots.items c.args.flow c.index_mut.result.now c.decide.new.self
    (slot-here c.args.self.now.slots.items c.args.flow c.index_mut.result.now c.requires.exists c.index_mut.ensures.value) c.decide.ensures.open_still

pub returns-clause-refused : goal.returns-clause-refused
returns-clause-refused g c = λ closing.
    c.decide.ensures.refused (closing c.index_mut.result.now (slot-here c.args.self.now.slots.items c.args.flow c.index_mut.result.now c.requires.exists c.index_mut.ensures.value))

pub returns-clause-closing : goal.returns-clause-closing
returns-clause-closing g c = λ is slot there.
    at-written IsClosing c.args.self.now.slots.items c.args.flow c.decide.new.self slot c.requires.exists (c.decide.ensures.closing is) there
