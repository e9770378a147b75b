use Rattle.std.proofs.Common.{◌≡◌, suc, ◌++◌, ◌∷◌, [], ℕ, Bool, List, replicate, refl, ap, subst, sym, ◌∙◌, append_assoc, arith}
use Rattle.std.specs.Prelude.{All}
use Rattle.std.specs.Vec.Iter.{into_iter_items}
use Rattle.std.proofs.lemmas.Grind.{common_steps}
use Rattle.std.proofs.lemmas.List.{append-nil, map-append}
use Rattle.docsis_wire.specs.declared.segment.Segment.{Segment}
use Rattle.docsis_wire.specs.Ready.{IsReady}
use Rattle.flow_core.specs.Fates.{Fates, no_fates}
use Rattle.flow_core.specs.Events.{arrives, gap, Leads}
use Rattle.flow_records.specs.declared.record.FlowRecord.{FlowRecord}
use Rattle.flow_core.specs.declared.flows.Core.{Core}
use Rattle.flow_core.specs.declared.event.Applied.{Applied}
use Rattle.flow_core.specs.Flows.{OthersStay, TakesEventAt}
use Rattle.flow_core.specs.Near.{AreNear}
use Rattle.flow_core.specs.Stands.{StandsFor}
use Rattle.flow_core.specs.Delivery.{IsDeliverySequence}
use Rattle.flow_core.specs.Closing.{Closes}
use Rattle.flow_core.specs.Giving.{HasGiven, HasClosed}
use Rattle.uses.specs.OneFlow.{arrivals}
use Rattle.uses.proofs.one_flow.play.Goals as goal

-- one more segment has arrived
arrives-more : {C : Type 0} (accepts : C → List ℕ → Bool) (core after : Core C) (accepted : List ℕ → Bool) (r : FlowRecord) (done : List Segment) (segment : Segment) (answer : Applied)
    (given : List (List ℕ)) → OthersStay core after 0 → TakesEventAt core 0 (arrives segment) answer after → HasGiven accepts core 0 accepted r (arrivals done) given
    → HasGiven accepts after 0 accepted r (arrivals (done ++ segment ∷ [])) given
arrives-more accepts core after accepted r done segment answer given others takes h =
    let there = takes h.flow h.there in
    let next = there.2 accepted r (arrivals done) h.answers h.y given h.stands in
    record {
      accepted_are = ap accepts others.check ∙ h.accepted_are;
      flow = there.0;
      there = there.1;
      answers = h.answers ++ answer ∷ [];
      y = next.0;
      stands = subst (λ e. StandsFor accepted r there.0 e (h.answers ++ answer ∷ []) next.0 given) (sym (map-append arrives done (segment ∷ []))) next.1;
    }

pub loop-segment-init : goal.loop-segment-init
loop-segment-init g c =
    let accepts = g.C.HeaderCheck.accepts in
    let core = c.in_ok-core.core in
    let is_new = c.in_ok-core.ensures.new in
    let items : into_iter_items c.into_iter-segment-iterator.result ≡ c.args.segments.items = grind (arith, common_steps) in
    let there = is_new.each 0 c.args.flow_record refl in
    let stands = there.2 (accepts c.args.check) in (
      subst (λ (s : List Segment). All IsReady s) (sym items) c.requires,
      (c.in_ok-core.ensures.can_be_set_up refl).each 0 c.args.flow_record refl,
      is_new.drained 0 (omega arith),
      (
        [],
        items,
        record {
          accepted_are = ap accepts is_new.check_is;
          flow = there.0;
          there = there.1;
          answers = [];
          y = 0;
          stands = subst (λ f. StandsFor (accepts c.args.check) c.args.flow_record there.0 [] [] 0 f) (sym c.new-frames.ensures.items) stands;
        },
      ),
    )

pub drain-requires : goal.drain-requires
drain-requires g c =
    let inv = c.loop-segment.invariant in
    let arrived = arrives-more g.C.HeaderCheck.accepts c.loop-segment.core c.apply.new.self (g.C.HeaderCheck.accepts c.args.check) c.args.flow_record inv.3.0 c.in-Some.segment c.apply.result
    c.loop-segment.frames.items c.apply.ensures.others c.apply.ensures.flow inv.3.2 in
    record {
      running = record {
        accepted = g.C.HeaderCheck.accepts c.args.check;
        flow_record = c.args.flow_record;
        events = arrivals (inv.3.0 ++ c.in-Some.segment ∷ []);
        given = c.loop-segment.frames.items;
        in_range = inv.1;
        has_given = arrived;
      };
    }

pub loop-segment-preserved : goal.loop-segment-preserved
loop-segment-preserved g c =
    let accepts = g.C.HeaderCheck.accepts in
    let accepted = accepts c.args.check in
    let r = c.args.flow_record in
    let inv = c.loop-segment.invariant in
    let done = inv.3.0 in
    let segment = c.in-Some.segment in
    let step : into_iter_items c.loop-segment.segment-iterator ≡ segment ∷ into_iter_items c.next.new.self = grind (arith, common_steps) in
    let arrived = arrives-more accepts c.loop-segment.core c.apply.new.self accepted r done segment c.apply.result c.loop-segment.frames.items c.apply.ensures.others c.apply.ensures.flow inv.3.2 in
    let d = c.in_ok-drain.ensures.drained in
    let given = (d.gives accepted r (arrivals (done ++ segment ∷ [])) c.loop-segment.frames.items inv.1 arrived).has_given in
    let ready : All IsReady (segment ∷ into_iter_items c.next.new.self) = subst (λ (s : List Segment). All IsReady s) step inv.0 in (
      λ k other below. ready (suc k) other (omega arith),
      inv.1,
      d.drained,
      (
        done ++ segment ∷ [],
        append_assoc done (segment ∷ []) (into_iter_items c.next.new.self) ∙ ap (λ s. done ++ s) (sym step) ∙ inv.3.1,
        subst (λ f. HasGiven accepts c.drain.new.self 0 accepted r (arrivals (done ++ segment ∷ [])) f) (sym d.appended) given,
      ),
    )

pub returns : goal.returns
returns g c = λ frames chunks fill cut closed lawful near played.
    let accepts = g.C.HeaderCheck.accepts in
    let accepted = accepts c.args.check in
    let r = c.args.flow_record in
    let inv = c.loop-segment.invariant in
    let done = inv.3.0 in
    let none : into_iter_items c.loop-segment.segment-iterator ≡ [] = grind (arith, common_steps) in
    let all : done ≡ c.args.segments.items = sym (append-nil done) ∙ ap (λ s. done ++ s) (sym none) ∙ inv.3.1 in
    let events = arrivals done in
    let given = c.close.new.frames.items in
    let closed_flow = c.in_ok-close.ensures.closed in
    let end = subst (λ f. HasClosed accepts c.close.new.self 0 accepted r events f) (sym closed_flow.appended) (closed_flow.gives accepted r events c.loop-segment.frames.items inv.1 inv.3.2) in
    let h = end.has_drained.has_given in
    let near_events = c.gaps_after_keep_events_near.ensures.gaps r.first r.window end.n cut events (subst (λ (s : List Segment). AreNear r.first r.window cut (arrivals s)) (sym all) near) in
    let outcome = c.drained_flow_has_its_outcome.ensures accepted r h.flow (events ++ replicate end.n gap) h.answers h.y given h.stands end.has_drained.drained in
    let delivered = c.outcome_of_near_events_is_the_delivery_sequence.ensures accepted frames chunks fill cut r (events ++ replicate end.n gap) h.answers given h.flow.counts h.stands.fates
    lawful near_events outcome h.stands.after in
    let split = (c.events_lead_on_in_turn.ensures r.first r.window events (replicate end.n gap) h.answers no_fates h.stands.fates).0 h.stands.after in
    let arrived = subst (λ (s : List Segment). Leads r.first r.window no_fates (arrivals s) played.answers played.fates) (sym all) played.after in
    let same = c.events_have_one_outcome.ensures.only r.first r.window events split.0 played.answers split.2 played.fates split.3 arrived in
    let closes : Closes r.first r.window played.fates h.stands.fates = subst (λ (f : Fates). Closes r.first r.window f h.stands.fates) same.1 (end.n, split.1, split.4, end.closed) in
    let one = c.flow_has_one_close.ensures.only r.first r.window played.fates h.stands.fates closed closes played.closes in
    subst (λ (f : Fates). IsDeliverySequence frames chunks f given) one delivered
