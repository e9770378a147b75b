-- Where decisions alone decide, the outcomes by the rule are those without one.
use Rattle.std.proofs.Common.{◌≡◌, ℕ, ◌==◌, Bool, true, false, cond, List, [], ◌∷◌, map, filter, replicate, length, refl, ap, sym, subst, ◌∙◌, arith}
use Rattle.flow_records.specs.declared.event.Event.{Event}
use Rattle.flow_records.specs.declared.event.Event.TheVariants.{Arrive, Gap, GapTo, SkipTo}
use Rattle.flow_core.specs.Fates.{no_fates}
use Rattle.flow_core.specs.Events.{gap, IsAfter}
use Rattle.flow_core.specs.Flows.{event_of}
use Rattle.flow_records.specs.Events.{flow_of}
use Rattle.flow_core.proofs.Turns.{leads-split}
use Rattle.loss_rule.specs.declared.rule.LossRule.TheVariants.{Decided}
use Rattle.loss_rule.specs.Rule.{own_event, no_lasts}
use Rattle.loss_rule.proofs.DecidedRule.{decided-events, decided-rules}
use Rattle.receiver.specs.declared.outcome.FlowOutcome.{FlowOutcome}
use Rattle.receiver.specs.declared.setup.Setup.{Setup}
use Rattle.receiver.specs.Items.{events_at}
use Rattle.receiver.specs.Outcome.{IsOutcomeOfFlow, AreOutcomesOfFlows}
use Rattle.receiver.specs.Ruled.{ruled_flow, coming_of, comings_at, AreRuledOutcomes}

-- the events of what comes are those of the items
own-event : (sender : ℕ) (item : Event) → own_event (coming_of sender item) ≡ event_of item
own-event sender (Arrive flow segment) = refl
own-event sender (Gap flow) = refl
own-event sender (GapTo flow number) = refl
own-event sender (SkipTo flow number) = refl

pub own-events : (k : ℕ) (order : List ℕ) (items : List Event) → length order ≡ length items → map own_event (comings_at k order items) ≡ events_at k items
own-events k [] [] paired = refl
own-events k [] (item ∷ items) paired = absurd (omega arith)
own-events k (sender ∷ order) [] paired = absurd (omega arith)
own-events k (sender ∷ order) (item ∷ items) paired = own-here (flow_of item == k) (own-events k order items (omega arith))
  where
    own-here : (own : Bool) → map own_event (comings_at k order items) ≡ events_at k items
        → map own_event (cond own (coming_of sender item ∷ comings_at k order items) (comings_at k order items)) ≡ map event_of (cond own (item ∷ filter (λ event. flow_of event == k) items) (filter (λ event. flow_of event == k) items))
    own-here true is = ap (λ e. e ∷ map own_event (comings_at k order items)) (own-event sender item) ∙ ap (λ t. event_of item ∷ t) is
    own-here false is = is

-- where handed-in decisions decide alone, it is what comes of the items as they are
pub decided-outcomes : (check : List ℕ → Bool) (setup : Setup) (order : List ℕ) (items : List Event) (flows : List FlowOutcome) → length order ≡ length items
    → AreRuledOutcomes Decided check setup order items flows → AreOutcomesOfFlows check setup.flows.items items flows
decided-outcomes check setup order items flows paired are = record {
  count = are.count;
  each = λ k r of_flow.
      let one = are.each k r of_flow in
      let flow = ruled_flow setup.sids.items k r in
      let same = decided-events flow (no_lasts flow) no_fates (comings_at k order items) one.2.events one.2.lasts one.2.fates one.2.ruled in
      (one.0, one.1, subst (λ events. IsOutcomeOfFlow check r events one.0) (same ∙ own-events k order items paired) one.2.gave);
}

-- and what comes of the items as they are is what comes of them then
pub outcomes-decided : (check : List ℕ → Bool) (setup : Setup) (order : List ℕ) (items : List Event) (flows : List FlowOutcome) → length order ≡ length items
    → AreOutcomesOfFlows check setup.flows.items items flows → AreRuledOutcomes Decided check setup order items flows
outcomes-decided check setup order items flows paired are = record {
  count = are.count;
  each = λ k r of_flow.
      let one = are.each k r of_flow in
      let flow = ruled_flow setup.sids.items k r in
      let comings = comings_at k order items in
      let same = own-events k order items paired in
      let gives = one.2.gives in
      let s = leads-split r.first r.window (events_at k items) (replicate gives.n gap) gives.outcome.answers no_fates gives.outcome.fates gives.outcome.after in
      let ruled = decided-rules flow (no_lasts flow) no_fates comings s.0 s.2 (subst (λ events. IsAfter r.first r.window events s.0 s.2) (sym same) s.3) in (
        one.0,
        one.1,
        record { events = map own_event comings; lasts = ruled.0; fates = s.2; ruled = ruled.1; gave = subst (λ events. IsOutcomeOfFlow check r events one.0) (sym same) one.2 },
      );
}
