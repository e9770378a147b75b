use Rattle.std.proofs.Common.{[], ◌∷◌, refl}
use Rattle.loss_rule.specs.Rule.{on_channel}
use Rattle.flow_core.proofs.OneFlow.{written_other}
use Rattle.bonded_flows.specs.Slots.{IsAtRest}
use Rattle.bonded_flows.proofs.SlotTurns.{on-ok}
use Rattle.bonded_flows.proofs.TableTurns.{slot-here, none-closes, slot-in_use, table-comes, still-in_use, at-written}
use Rattle.bonded_flows.proofs.flow_table.FlowTable.take_segment.Goals as goal

pub take_segment-requires-clause-in_use : goal.take_segment-requires-clause-in_use
take_segment-requires-clause-in_use g c =
    slot-in_use g.C.HeaderCheck.accepts c.args.self.now c.args.flow c.index_mut.result.now
    (slot-here c.args.self.now.slots.items c.args.flow c.index_mut.result.now c.requires.exists c.index_mut.ensures.value) c.requires.in_use

pub take_segment-requires-clause-prepared : goal.take_segment-requires-clause-prepared
take_segment-requires-clause-prepared g c = c.requires.prepared c.index_mut.result.now (slot-here c.args.self.now.slots.items c.args.flow c.index_mut.result.now c.requires.exists c.index_mut.ensures.value)

pub returns-clause-takes : goal.returns-clause-takes
returns-clause-takes g c =
    table-comes g.C.HeaderCheck.accepts c.args.self.now _ c.args.flow c.index_mut.result.now c.take_segment.new.self
    (slot-here c.args.self.now.slots.items c.args.flow c.index_mut.result.now c.requires.exists c.index_mut.ensures.value) refl refl c.requires.in_use g.O.Consumer.after c.args.out.now c.take_segment.new.out (on_channel c.args.channel c.args.segment ∷ []) c.take_segment.ensures.takes

pub returns-clause-told : goal.returns-clause-told
returns-clause-told g c =
    on-ok c.take_segment.result
    (λ told is setup comings given stands. is setup comings given (stands c.index_mut.result.now (slot-here c.args.self.now.slots.items c.args.flow c.index_mut.result.now c.requires.exists c.index_mut.ensures.value))) c.take_segment.ensures.told

pub returns-clause-at_rest : goal.returns-clause-at_rest
returns-clause-at_rest g c =
    on-ok c.take_segment.result
    (λ _ is slot there. at-written IsAtRest c.args.self.now.slots.items c.args.flow c.take_segment.new.self slot c.requires.exists is there) c.take_segment.ensures.at_rest

pub returns-clause-in_use : goal.returns-clause-in_use
returns-clause-in_use g c =
    still-in_use g.C.HeaderCheck.accepts g.O.Consumer.after c.args.self.now _ c.args.out.now c.take_segment.new.out c.requires.in_use _ (returns-clause-takes g c)

pub returns-clause-others : goal.returns-clause-others
returns-clause-others g c = λ other apart. written_other c.args.self.now.slots.items c.args.flow other c.take_segment.new.self apart

pub returns-clause-open_still : goal.returns-clause-open_still
returns-clause-open_still g c =
    none-closes c.args.self.now.slots.items c.args.flow c.index_mut.result.now c.take_segment.new.self
    (slot-here c.args.self.now.slots.items c.args.flow c.index_mut.result.now c.requires.exists c.index_mut.ensures.value) (λ closing. absurd (c.take_segment.ensures.open_still closing))
