-- One decision more was given, and posted if it names a flow.
use Rattle.std.proofs.Common.{◌≡◌, true, false, [], ◌∷◌, ◌++◌, rules, refl, sym, ap, ◌∙◌}
use Rattle.std.proofs.lemmas.List.{append-nil, map-append}
use Rattle.mailbox.specs.Ports.{posted}
use Rattle.flow_records.specs.Decisions.{names_a_flow}
use Rattle.workers.specs.declared.item.Item.{Item}
use Rattle.workers.specs.Inside.Carried.{SentEvent, carried}
use Rattle.workers.proofs.GivenInParts.{given-nothing, given-on}
use Rattle.workers.proofs.DecisionsPassed.{sent_decision, passed-one}
use Rattle.workers.proofs.decision_worker.pass_on.Goals as goal

pub loop-init : goal.loop-init
loop-init g c = ([], given-nothing g.D.LiveDecisions.gave c.args.work.now.decisions, refl, refl, refl, sym (append-nil (carried (posted c.args.work.now.arrivals))))

pub loop-preserved-then-names_a_flow : goal.loop-preserved-then-names_a_flow
loop-preserved-then-names_a_flow g c =
    let so_far = c.loop.invariant in
    let work = c.args.work.now in
    let decision = c.in-Some-next.decision in
    let names : names_a_flow work.flow_count decision ≡ true = search rules in
    let sent : Item → SentEvent = λ item. record { sender = item.sender; event = item.event } in
    let posts : carried (posted c.post_item.new.port) ≡ carried (posted c.loop.work.arrivals) ++ sent_decision work.sender work.flow_count decision ∷ [] =
    ap carried c.post_item.ensures.posted ∙ map-append sent (posted c.loop.work.arrivals) _
    ∙ ap (λ event. carried (posted c.loop.work.arrivals) ++ record { sender = c.loop.work.sender; event = event } ∷ []) c.event-event.ensures
    ∙ ap (λ sender. carried (posted c.loop.work.arrivals) ++ sent_decision sender work.flow_count decision ∷ []) so_far.3 in (
      so_far.0 ++ decision ∷ [],
      given-on g.D.LiveDecisions.gave work.decisions c.loop.work.decisions c.next-in-loop.new.self so_far.0 (decision ∷ [])
          so_far.1 c.in-Some-next.ensures.given,
      so_far.2,
      so_far.3,
      c.post_item.ensures.address ∙ so_far.4,
      passed-one work.sender work.flow_count (carried (posted work.arrivals)) (carried (posted c.loop.work.arrivals)) _ so_far.0 decision true names so_far.5 posts,
    )

pub loop-preserved : goal.loop-preserved
loop-preserved g c =
    let so_far = c.loop.invariant in
    let work = c.args.work.now in
    let decision = c.in-Some-next.decision in
    let names : names_a_flow work.flow_count decision ≡ false = search rules in (
      so_far.0 ++ decision ∷ [],
      given-on g.D.LiveDecisions.gave work.decisions c.loop.work.decisions c.next-in-loop.new.self so_far.0 (decision ∷ [])
          so_far.1 c.in-Some-next.ensures.given,
      so_far.2,
      so_far.3,
      so_far.4,
      passed-one work.sender work.flow_count (carried (posted work.arrivals)) (carried (posted c.loop.work.arrivals)) _ so_far.0 decision false names so_far.5
          (sym (append-nil (carried (posted c.loop.work.arrivals)))),
    )
