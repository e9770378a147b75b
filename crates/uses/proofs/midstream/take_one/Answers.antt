-- The flow is made ready, and takes the segment.
use Rattle.std.proofs.Common.{[], ◌∷◌, sym, subst, ◌∙◌, arith}
use Rattle.loss_rule.specs.Rule.{on_channel}
use Rattle.bonded_flows.specs.Parts.{comes}
use Rattle.bonded_flows.proofs.TableTurns.{of_flow}
use Rattle.uses.specs.Midstream.{TakesAll}
use Rattle.uses.proofs.TableTakes.{holds-good, takes-of-one, prepared-takes, as-many}
use Rattle.uses.proofs.midstream.take_one.Goals as goal

pub returns-then-is_err-clause-flows : goal.returns-then-is_err-clause-flows
returns-then-is_err-clause-flows g c =
    let accepts = g.C.HeaderCheck.accepts in
    let after = g.O.Consumer.after in
    as-many after accepts c.args.flows.now c.prepare.new.self c.args.out.now c.prepare.new.out [] c.requires.in_use
    (takes-of-one after accepts c.args.flows.now c.prepare.new.self c.args.out.now c.prepare.new.out c.args.flow [] c.prepare.ensures.takes)

pub take_segment-requires-clause-exists : goal.take_segment-requires-clause-exists
take_segment-requires-clause-exists g c =
    let accepts = g.C.HeaderCheck.accepts in
    let after = g.O.Consumer.after in
    let same = as-many after accepts c.args.flows.now c.prepare.new.self c.args.out.now c.prepare.new.out [] c.requires.in_use
    (takes-of-one after accepts c.args.flows.now c.prepare.new.self c.args.out.now c.prepare.new.out c.args.flow [] c.prepare.ensures.takes) in
    omega (arith, same, c.requires.exists)

pub take_segment-requires-clause-prepared : goal.take_segment-requires-clause-prepared
take_segment-requires-clause-prepared g c = holds-good c.prepare.result (sym c.is_err.ensures.value ∙ c.if-is_err.false) c.prepare.ensures.prepared

pub returns-in_err-take_segment-clause-flows : goal.returns-in_err-take_segment-clause-flows
returns-in_err-take_segment-clause-flows g c =
    let accepts = g.C.HeaderCheck.accepts in
    let after = g.O.Consumer.after in
    as-many after accepts c.args.flows.now c.take_segment.new.self c.args.out.now c.take_segment.new.out _ c.requires.in_use
    (prepared-takes after accepts c.args.flows.now c.prepare.new.self c.take_segment.new.self c.args.out.now c.prepare.new.out c.take_segment.new.out c.args.flow _
    c.prepare.ensures.takes c.take_segment.ensures.takes)

pub returns-clause-flows : goal.returns-clause-flows
returns-clause-flows g c =
    let accepts = g.C.HeaderCheck.accepts in
    let after = g.O.Consumer.after in
    as-many after accepts c.args.flows.now c.take_segment.new.self c.args.out.now c.take_segment.new.out _ c.requires.in_use
    (prepared-takes after accepts c.args.flows.now c.prepare.new.self c.take_segment.new.self c.args.out.now c.prepare.new.out c.take_segment.new.out c.args.flow _
    c.prepare.ensures.takes c.take_segment.ensures.takes)

pub returns-clause-takes : goal.returns-clause-takes
returns-clause-takes g c =
    let accepts = g.C.HeaderCheck.accepts in
    let after = g.O.Consumer.after in
    subst (λ n. TakesAll after accepts c.args.flows.now c.args.out.now (of_flow c.args.flow (comes (on_channel n c.args.one.segment.segment)) ∷ []) c.take_segment.new.self c.take_segment.new.out)
    c.from.ensures
    (prepared-takes after accepts c.args.flows.now c.prepare.new.self c.take_segment.new.self c.args.out.now c.prepare.new.out c.take_segment.new.out c.args.flow _
    c.prepare.ensures.takes c.take_segment.ensures.takes)
