-- What was taken before is what was there.
use Rattle.std.proofs.Common.{rules}
use Rattle.receiver.specs.TakenInOrder.{table_input_of}
use Rattle.uplink.proofs.ItemsTaken.{untried, tried}
use Rattle.uplink.proofs.assembler.with_item.Goals as goal

pub returns-clause-takes : goal.returns-clause-takes
returns-clause-takes g c = (
  c.in_ok-flows.field-0,
  c.in_ok-flows.was,
  search rules,
  c.in_ok-take_item.ensures.takes,
)

pub returns-then-has_failed-clause-at_most : goal.returns-then-has_failed-clause-at_most
returns-then-has_failed-clause-at_most g c =
    untried g.C.HeaderCheck.accepts c.args.taking c.args.feeding.now (table_input_of c.args.item.sender c.args.item.event)

pub returns-in_err-flows-clause-at_most : goal.returns-in_err-flows-clause-at_most
returns-in_err-flows-clause-at_most g c =
    untried g.C.HeaderCheck.accepts c.args.taking c.args.feeding.now (table_input_of c.args.item.sender c.args.item.event)

pub returns-in_err-ok-clause-at_most : goal.returns-in_err-ok-clause-at_most
returns-in_err-ok-clause-at_most g c =
    untried g.C.HeaderCheck.accepts c.args.taking c.args.feeding.now (table_input_of c.args.item.sender c.args.item.event)

pub returns-in_err-take_item-clause-at_most : goal.returns-in_err-take_item-clause-at_most
returns-in_err-take_item-clause-at_most g c =
    tried g.C.HeaderCheck.accepts c.args.taking c.in_ok-flows.field-0 c.args.feeding.now c.take_item.new.feeding (table_input_of c.args.item.sender c.args.item.event)
    c.take_item.new.flows c.in_ok-flows.was c.take_item.ensures.at_most

pub returns-then-not-feeding-clause-at_most : goal.returns-then-not-feeding-clause-at_most
returns-then-not-feeding-clause-at_most g c =
    tried g.C.HeaderCheck.accepts c.args.taking c.in_ok-flows.field-0 c.args.feeding.now c.take_item.new.feeding (table_input_of c.args.item.sender c.args.item.event)
    c.take_item.new.flows c.in_ok-flows.was c.take_item.ensures.at_most

pub returns-clause-at_most : goal.returns-clause-at_most
returns-clause-at_most g c =
    tried g.C.HeaderCheck.accepts c.args.taking c.in_ok-flows.field-0 c.args.feeding.now c.take_item.new.feeding (table_input_of c.args.item.sender c.args.item.event)
    c.take_item.new.flows c.in_ok-flows.was c.take_item.ensures.at_most
