-- What a flow has given comes first in the delivery sequence after the events that it has taken.
use Rattle.std.proofs.Common.{◌≡◌, ℕ, Bool, Option, Some, None, List, [], ◌∷◌, ◌++◌, replicate, sym, ap, subst, ◌∙◌, append_assoc, append-nil}
use Rattle.docsis_wire.specs.declared.segment.Segment.{Segment}
use Rattle.docsis_wire.specs.Cut.{IsLawfulCut}
use Rattle.flow_core.specs.declared.counts.FlowCounts.{FlowCounts}
use Rattle.flow_core.specs.Events.{FlowEvent, arrives, gap}
use Rattle.flow_core.specs.Fates.{Fates}
use Rattle.flow_core.specs.Near.{AreNear}
use Rattle.flow_core.specs.Outcome.{IsFlowOutcome}
use Rattle.loss_rule.specs.Rule.{Coming, Lasts, AreRuled}
use Rattle.bonded_flows.specs.declared.pending.Pending.{Pending}
use Rattle.bonded_flows.specs.declared.pending.Pending.TheVariants.{Nothing, Slide, Arrive, Close}
use Rattle.bonded_flows.specs.FlowSetup.{FlowSetup, ruled_flow}
use Rattle.bonded_flows.specs.Slots.{EntryStands}
use Rattle.bonded_flows.specs.Stands.{IsPending}
use Rattle.std.specs.Box.{box_value}
use Rattle.uplink.specs.Fronts.{ComesFirstIn}
use Rattle.uplink.specs.Headline.{TookAFront}
use Rattle.uplink.proofs.laws.flows_have_given_what_comes_first.Goals as goal
use Rattle.uplink.proofs.laws.flows_have_given_what_comes_first.Goals.{After-ruled_events_are_one}

-- events that come first of near ones are near
near-front : (first width : ℕ) (segments : List Segment) (reached whole : List FlowEvent) → ComesFirstIn reached whole → AreNear first width segments whole
    → AreNear first width segments reached
near-front first width segments reached whole front near = λ before behind segment answers fates x split after expected.
    near before (behind ++ front.0) segment answers fates x
    (front.1 ∙ ap (λ l. l ++ front.0) split ∙ append_assoc before (arrives segment ∷ behind) front.0) after expected

-- the events that a flow has taken come first of all its events and some gaps of its close
reached-of : (setup : FlowSetup) (pending : Pending) (events taken : List FlowEvent) → IsPending setup pending events taken
    → (gaps : ℕ) × ComesFirstIn taken (events ++ replicate gaps gap)
reached-of setup Nothing events taken left = (0, ([], ap (λ l. l ++ []) (sym left)))
reached-of setup (Slide ready) events taken left =
    (0, (left.0 ++ arrives ready.segment ∷ [], append-nil events ∙ left.2 ∙ append_assoc taken left.0 (arrives ready.segment ∷ [])))
reached-of setup (Arrive ready) events taken left = (0, (arrives ready.segment ∷ [], append-nil events ∙ left))
reached-of setup Close events taken left = (left.0, ([], sym (append-nil taken ∙ left.1)))

module _ (c : After-ruled_events_are_one) (check : List ℕ → Bool) (setup : FlowSetup) (frames chunks : List (List ℕ)) (fill : ℕ) (segments : List Segment)
    (cut : IsLawfulCut check frames setup.flow_record.first fill chunks segments) (events : List FlowEvent)
    (near : AreNear setup.flow_record.first setup.flow_record.window segments events) where
  -- a drained flow gave all of the sequence after its events and these gaps
  of-outcome : (n : ℕ) (given : List (List ℕ)) (counts : FlowCounts) → IsFlowOutcome check setup.flow_record (events ++ replicate n gap) given counts
      → TookAFront frames chunks setup.flow_record events given
  of-outcome n given counts outcome =
      let all = events ++ replicate n gap in
      record {
        gaps = n;
        reached = all;
        reached_is = ([], sym (append-nil all));
        answers = outcome.answers;
        fates = outcome.fates;
        after = outcome.after;
        sequence = given;
        sequence_is = c.outcome_of_near_events_is_the_delivery_sequence.ensures check frames chunks fill segments setup.flow_record all outcome.answers given counts
            outcome.fates cut
            (c.gaps_after_keep_events_near.ensures.gaps setup.flow_record.first setup.flow_record.window n segments events near) outcome outcome.after;
        front = ([], sym (append-nil given));
      }

  module _ (comings : List Coming) (lasts : Lasts) (fates : Fates) (ruled : AreRuled setup.rule (ruled_flow setup) comings events lasts fates) where
    -- the events are these
    same-events : (others : List FlowEvent) (lasts' : Lasts) (fates' : Fates) → AreRuled setup.rule (ruled_flow setup) comings others lasts' fates' → others ≡ events
    same-events others lasts' fates' is =
        (c.ruled_events_are_one.ensures.only setup.rule (ruled_flow setup) comings others events lasts' lasts fates' fates is ruled).0

    of-entry : (entry : Option _) (given : List (List ℕ)) → EntryStands check setup entry comings given → TookAFront frames chunks setup.flow_record events given
    of-entry None given stands =
        let same = same-events stands.events stands.lasts _ stands.ruled in
        let none = c.decisions_about_an_empty_flow_change_nothing.ensures.outcome check setup.flow_record stands.events 0 stands.no_arrival stands.no_skip in
        subst (TookAFront frames chunks setup.flow_record events) (sym stands.nothing)
        (of-outcome 0 [] _ (subst (λ (e : List FlowEvent). IsFlowOutcome check setup.flow_record (e ++ replicate 0 gap) [] _) same none.0))
    of-entry (Some flow) given stands =
        let same = same-events stands.events stands.lasts stands.fates stands.ruled in
        let taking = stands.taking in
        let has = taking.has_taken in
        let reached = reached-of setup (box_value flow).pending events taking.taken
        (subst (λ (e : List FlowEvent). IsPending setup (box_value flow).pending e taking.taken) same taking.left) in
        let near_taken = near-front setup.flow_record.first setup.flow_record.window segments taking.taken (events ++ replicate reached.0 gap) reached.1
        (c.gaps_after_keep_events_near.ensures.gaps setup.flow_record.first setup.flow_record.window reached.0 segments events near) in
        let ahead = c.flow_gives_the_delivery_sequence.ensures.ahead check frames chunks fill segments setup.flow_record (box_value flow).flow taking.taken has.answers
        has.y given has.stands.fates cut near_taken has.stands has.stands.after in
        record {
          gaps = reached.0;
          reached = taking.taken;
          reached_is = reached.1;
          answers = has.answers;
          fates = has.stands.fates;
          after = has.stands.after;
          sequence = ahead.0;
          sequence_is = ahead.1;
          front = ahead.2;
        }

pub returns-clause-under_way : goal.returns-clause-under_way
returns-clause-under_way c = λ check setup slot comings given frames chunks fill segments events lasts fates stands ruled cut near.
    of-entry c check setup frames chunks fill segments cut events near comings lasts fates ruled slot.flow given stands.entry

pub returns-clause-closed : goal.returns-clause-closed
returns-clause-closed c = λ check setup comings given frames chunks counts fill segments events lasts fates gave ruled cut near.
    let same = same-events c check setup frames chunks fill segments cut events near comings lasts fates ruled gave.events gave.lasts gave.fates gave.ruled in
    of-outcome c check setup frames chunks fill segments cut events near gave.n given counts
    (subst (λ (e : List FlowEvent). IsFlowOutcome check setup.flow_record (e ++ replicate gave.n gap) given counts) same gave.outcome)
