-- The item's flow takes what the item is to it, or the item is passed over.
use Rattle.std.proofs.Common.{◌≡◌, ℕ, IfSome, ◌∷◌, [], ap, sym, subst, ◌∙◌, arith}
use Rattle.flow_records.specs.declared.event.Event.{Event}
use Rattle.flow_records.specs.Events.{flow_of}
use Rattle.loss_rule.specs.Rule.{on_channel}
use Rattle.bonded_flows.specs.Parts.{comes}
use Rattle.bonded_flows.specs.Table.{TableInput}
use Rattle.bonded_flows.proofs.TableTurns.{of_flow}
use Rattle.receiver.specs.Ruled.{coming_of}
use Rattle.uplink.specs.Inside.Feeding.{HasOffered}
use Rattle.uplink.specs.Inside.Offering.{Takes, TakesAtMost}
use Rattle.uplink.proofs.ItemsTaken.{passed-over, takes-nothing, none-of}
use Rattle.uplink.proofs.assembler.take_item.Goals as goal

-- what is handed in of a flow is what the item is to it
its-input : (from k : ℕ) (item is : Event) → k ≡ flow_of item → item ≡ is → of_flow k (comes (coming_of from is)) ≡ of_flow (flow_of item) (comes (coming_of from item))
its-input from k item is own same =
    ap (λ n. of_flow n (comes (coming_of from is))) own ∙ ap (λ (event : Event). of_flow (flow_of item) (comes (coming_of from event))) (sym same)

pub returns-then-flow-flow_count-clause-takes : goal.returns-then-flow-flow_count-clause-takes
returns-then-flow-flow_count-clause-takes g c =
    let item = c.args.item in (
      flow_of item,
      passed-over g.C.HeaderCheck.accepts HasOffered c.args.flows.now c.args.feeding.now (flow_of item) (comes (coming_of c.args.sender item))
          (omega (arith, c.if-flow-flow_count.true, c.flow-flow.ensures, c.flow_count.ensures)),
    )

pub returns-in-Arrive-clause-takes : goal.returns-in-Arrive-clause-takes
returns-in-Arrive-clause-takes g c =
    let call = c.take_segment in
    subst (λ (input : TableInput). IfSome call.result (λ _. Takes g.C.HeaderCheck.accepts c.args.flows.now c.args.feeding.now (input ∷ []) call.new.flows call.new.feeding))
    (ap (λ n. of_flow c.flow-flow.result (comes (on_channel n c.in-Arrive.segment))) c.from.ensures
    ∙ its-input c.args.sender c.flow-flow.result c.args.item _ c.flow-flow.ensures c.in-Arrive.is)
    call.ensures.takes

pub returns-in-Gap-clause-takes : goal.returns-in-Gap-clause-takes
returns-in-Gap-clause-takes g c =
    let call = c.decide in
    subst (λ (input : TableInput). IfSome call.result (λ _. Takes g.C.HeaderCheck.accepts c.args.flows.now c.args.feeding.now (input ∷ []) call.new.flows call.new.feeding))
    (its-input c.args.sender c.flow-flow.result c.args.item _ c.flow-flow.ensures c.in-Gap.is)
    call.ensures.takes

pub returns-in-GapTo-clause-takes : goal.returns-in-GapTo-clause-takes
returns-in-GapTo-clause-takes g c =
    let call = c.decide-in-GapTo in
    subst (λ (input : TableInput). IfSome call.result (λ _. Takes g.C.HeaderCheck.accepts c.args.flows.now c.args.feeding.now (input ∷ []) call.new.flows call.new.feeding))
    (its-input c.args.sender c.flow-flow.result c.args.item _ c.flow-flow.ensures c.in-GapTo.is)
    call.ensures.takes

pub returns-in-SkipTo-clause-takes : goal.returns-in-SkipTo-clause-takes
returns-in-SkipTo-clause-takes g c =
    let call = c.decide-in-SkipTo in
    subst (λ (input : TableInput). IfSome call.result (λ _. Takes g.C.HeaderCheck.accepts c.args.flows.now c.args.feeding.now (input ∷ []) call.new.flows call.new.feeding))
    (its-input c.args.sender c.flow-flow.result c.args.item _ c.flow-flow.ensures c.in-SkipTo.is)
    call.ensures.takes

pub returns-then-flow-flow_count-clause-at_most : goal.returns-then-flow-flow_count-clause-at_most
returns-then-flow-flow_count-clause-at_most g c =
    none-of g.C.HeaderCheck.accepts c.args.flows.now c.args.flows.now c.args.feeding.now c.args.feeding.now _ 0
    (takes-nothing g.C.HeaderCheck.accepts HasOffered c.args.flows.now c.args.feeding.now 0)

pub returns-in-Arrive-clause-at_most : goal.returns-in-Arrive-clause-at_most
returns-in-Arrive-clause-at_most g c =
    let call = c.take_segment in
    subst (λ (input : TableInput). TakesAtMost g.C.HeaderCheck.accepts c.args.flows.now c.args.feeding.now input call.new.flows call.new.feeding)
    (ap (λ n. of_flow c.flow-flow.result (comes (on_channel n c.in-Arrive.segment))) c.from.ensures
    ∙ its-input c.args.sender c.flow-flow.result c.args.item _ c.flow-flow.ensures c.in-Arrive.is)
    call.ensures.at_most

pub returns-in-Gap-clause-at_most : goal.returns-in-Gap-clause-at_most
returns-in-Gap-clause-at_most g c =
    let call = c.decide in
    subst (λ (input : TableInput). TakesAtMost g.C.HeaderCheck.accepts c.args.flows.now c.args.feeding.now input call.new.flows call.new.feeding)
    (its-input c.args.sender c.flow-flow.result c.args.item _ c.flow-flow.ensures c.in-Gap.is)
    call.ensures.at_most

pub returns-in-GapTo-clause-at_most : goal.returns-in-GapTo-clause-at_most
returns-in-GapTo-clause-at_most g c =
    let call = c.decide-in-GapTo in
    subst (λ (input : TableInput). TakesAtMost g.C.HeaderCheck.accepts c.args.flows.now c.args.feeding.now input call.new.flows call.new.feeding)
    (its-input c.args.sender c.flow-flow.result c.args.item _ c.flow-flow.ensures c.in-GapTo.is)
    call.ensures.at_most

pub returns-in-SkipTo-clause-at_most : goal.returns-in-SkipTo-clause-at_most
returns-in-SkipTo-clause-at_most g c =
    let call = c.decide-in-SkipTo in
    subst (λ (input : TableInput). TakesAtMost g.C.HeaderCheck.accepts c.args.flows.now c.args.feeding.now input call.new.flows call.new.feeding)
    (its-input c.args.sender c.flow-flow.result c.args.item _ c.flow-flow.ensures c.in-SkipTo.is)
    call.ensures.at_most
