-- All is handed in in the order of the tags, and the receiver is closed.
use Rattle.std.proofs.Common.{ℕ, List, refl, sym, subst}
use Rattle.receiver.specs.Items.{incoming_of}
use Rattle.receiver.specs.Order.{IsOrderFault}
use Rattle.receiver.specs.AdmittedOrder.{IsAdmittedOrder}
use Rattle.receiver.specs.Ruled.{IsOutcomeBy}
use Rattle.receiver.proofs.ReplayedOrder.{from-nothing, tags-handed, tags-admitted, tags-replayed}
use Rattle.receiver.proofs.one_thread.replay_tags_by.Goals as goal

pub returns-in-Err-clause-fault : goal.returns-in-Err-clause-fault
returns-in-Err-clause-fault g c = (
  c.in_ok-check.ensures.ok.0 refl,
  subst (λ (counts : List ℕ). IsOrderFault counts c.args.tags.now c.in-Err.place) c.input_counts.ensures ((c.in-Err.ensures.fault c.in-Err.place).0 refl),
)

pub finish-requires : goal.finish-requires
finish-requires g c =
    let accepts = g.C.HeaderCheck.accepts in
    let incoming = incoming_of c.args.lists.now in
    let first = c.in_ok-playing.playing in
    let all = tags-handed accepts c.args.rule (accepts c.args.check) c.args.setup.now incoming first c.take_by_tags.new.self c.in_ok-playing.ensures.plays
    (from-nothing incoming first.places c.in_ok-playing.ensures.playing.five c.in_ok-playing.ensures.places) c.args.tags.now c.in_ok-order.order.items c.in_ok-order.ensures.takes c.in_ok-order.ensures.used_up in
    (c.args.rule, accepts c.args.check, all.0, all.1)

pub returns-clause-order : goal.returns-clause-order
returns-clause-order g c =
    let accepts = g.C.HeaderCheck.accepts in
    let incoming = incoming_of c.args.lists.now in
    let first = c.in_ok-playing.playing in
    subst (λ (order : List ℕ). IsAdmittedOrder c.args.setup.now incoming c.args.tags.now order) (sym c.in_ok-finish.ensures.order)
    (tags-admitted accepts c.args.rule (accepts c.args.check) c.args.setup.now incoming first c.take_by_tags.new.self c.in_ok-playing.ensures.plays
    (from-nothing incoming first.places c.in_ok-playing.ensures.playing.five c.in_ok-playing.ensures.places) c.args.tags.now c.in_ok-order.order.items c.in_ok-order.ensures.takes c.in_ok-order.ensures.used_up)

pub returns-clause-outcome : goal.returns-clause-outcome
returns-clause-outcome g c =
    let accepts = g.C.HeaderCheck.accepts in
    let incoming = incoming_of c.args.lists.now in
    let first = c.in_ok-playing.playing in
    subst (λ (order : List ℕ). IsOutcomeBy c.args.rule (accepts c.args.check) c.args.setup.now incoming order c.in_ok-finish.field-0) (sym c.in_ok-finish.ensures.order)
    (tags-replayed accepts c.args.rule (accepts c.args.check) c.args.setup.now incoming first c.take_by_tags.new.self c.in_ok-playing.ensures.plays
    (from-nothing incoming first.places c.in_ok-playing.ensures.playing.five c.in_ok-playing.ensures.places) c.args.tags.now c.in_ok-order.order.items c.in_ok-order.ensures.takes c.in_ok-order.ensures.used_up
    c.in_ok-finish.field-0 (λ handed plays sent. c.in_ok-finish.ensures.gives c.args.rule (accepts c.args.check) handed plays sent) c.in_ok-finish.ensures.order)
