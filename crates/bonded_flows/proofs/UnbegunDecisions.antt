-- What is decided of a flow that wasn't begun changes nothing, as long as it is no skip.
use Rattle.std.proofs.Common.{◌≡◌, ℕ, inl, inr, true, false, List, [], ◌∷◌, ◌++◌, refl, ap, sym, subst, ◌∙◌}
use Rattle.std.specs.Ordering.{nat_cmp}
use Rattle.std.specs.FinMap as map
use Rattle.docsis_wire.specs.declared.segment.Segment.{Segment}
use Rattle.flow_core.specs.declared.event.Applied.{Applied}
use Rattle.flow_core.specs.declared.event.Applied.TheVariants.{Arrival, Decision, DecisionTo, DecisionSkip}
use Rattle.reorder.specs.declared.verdict.Declared.TheVariants.{NextIsHere, NothingHeld, Lost}
use Rattle.flow_core.specs.Fates.{Fates, no_fates, IsKept}
use Rattle.flow_core.specs.Events.{FlowEvent, arrives, skip_to, Changes, Leads, IsAfter}
use Rattle.flow_core.specs.Closing.{HaveNoArrival, HaveNoSkip}
use Rattle.flow_core.proofs.EmptyFlows.{gaps-nothing}
use Rattle.flow_core.proofs.OneFates.{after-exists}
use Rattle.flow_core.proofs.Turns.{in_either, leads-split}
use Rattle.flow_core.proofs.Windows.{some-none}
use Rattle.loss_rule.specs.Rule.{Coming, handed_in}
use Rattle.bonded_flows.specs.declared.decision.FlowDecision.{FlowDecision}
use Rattle.bonded_flows.specs.declared.decision.FlowDecision.TheVariants.{Gap, GapTo, SkipTo}
use Rattle.bonded_flows.specs.FlowSetup.{FlowSetup}
use Rattle.bonded_flows.specs.Answers.{says_any_lost}
use Rattle.bonded_flows.specs.ByRule.{decision_event, skips_any, IsToldLost}
use Rattle.bonded_flows.specs.Slots.{HasNotBegun}
use Rattle.bonded_flows.proofs.Comings.{decision-come}

-- it neither is an arrival nor skips
abbrev pub IsGap : FlowEvent → Type 0
IsGap event = ((segment : Segment) → ¬ (event ≡ arrives segment)) × ((number : ℕ) → ¬ (event ≡ skip_to number))

pub decides-gap : (decision : FlowDecision) → skips_any decision ≡ false → IsGap (decision_event decision)
decides-gap Gap none = (λ segment same. absurd cc, λ number same. absurd cc)
decides-gap (GapTo number) none = (λ segment same. absurd cc, λ other same. absurd cc)
decides-gap (SkipTo number) none = absurd cc

-- nothing stands in an empty list
pub nothing-there : (before behind : List FlowEvent) (event : FlowEvent) → ¬ ([] ≡ before ++ event ∷ behind)
nothing-there [] behind event e = absurd cc
nothing-there (b ∷ before) behind event e = absurd cc

-- one event more
one-more : (event own : FlowEvent) (earlier behind : List FlowEvent) → event ∷ [] ≡ earlier ++ own ∷ behind → event ≡ own
one-more event own [] behind e = cc
one-more event own (b ∷ earlier) behind e =
    let rest : [] ≡ earlier ++ own ∷ behind = cc in
    absurd (nothing-there earlier behind own rest)

no-arrival : (events : List FlowEvent) (event : FlowEvent) → HaveNoArrival events → IsGap event → HaveNoArrival (events ++ event ∷ [])
no-arrival events event none is_gap = λ before behind segment e. elim (in_either events (event ∷ []) before behind (arrives segment) e) [
  | inl h ↦ none before h.0 segment h.1
  | inr h ↦ is_gap.0 segment (one-more event (arrives segment) h.0 behind h.1)
]

no-skip : (events : List FlowEvent) (event : FlowEvent) → HaveNoSkip events → IsGap event → HaveNoSkip (events ++ event ∷ [])
no-skip events event none is_gap = λ before behind number e. elim (in_either events (event ∷ []) before behind (skip_to number) e) [
  | inl h ↦ none before h.0 number h.1
  | inr h ↦ is_gap.1 number (one-more event (skip_to number) h.0 behind h.1)
]

-- nothing is kept before anything came
nothing-kept : (i : ℕ) → IsKept no_fates i → ⊥
nothing-kept i kept = some-none _ (sym kept.1 ∙ map.get-empty nat_cmp i)

-- a gap then loses nothing
loses-nothing : (first width x : ℕ) (decision : FlowDecision) (answer : Applied) (between : Fates) → skips_any decision ≡ false
    → Changes first width x (decision_event decision) answer no_fates between → says_any_lost answer ≡ false
loses-nothing first width x Gap (Arrival verdict) between none changes = absurd changes
loses-nothing first width x Gap (DecisionTo any) between none changes = absurd changes
loses-nothing first width x Gap (DecisionSkip any) between none changes = absurd changes
loses-nothing first width x Gap (Decision NextIsHere) between none changes = refl
loses-nothing first width x Gap (Decision NothingHeld) between none changes = refl
loses-nothing first width x Gap (Decision (Lost number)) between none changes = absurd (nothing-kept changes.0.0 changes.0.2)
loses-nothing first width x (GapTo number) (Arrival verdict) between none changes = absurd changes
loses-nothing first width x (GapTo number) (Decision declared) between none changes = absurd changes
loses-nothing first width x (GapTo number) (DecisionSkip any) between none changes = absurd changes
loses-nothing first width x (GapTo number) (DecisionTo false) between none changes = refl
loses-nothing first width x (GapTo number) (DecisionTo true) between none changes =
    let lost = changes.answer.0 refl in absurd (nothing-kept lost.1.later_kept.0 lost.1.later_kept.2)
loses-nothing first width x (SkipTo number) answer between none changes = absurd cc

module _ (setup : FlowSetup) (comings : List Coming) (given : List (List ℕ)) (none : HasNotBegun setup comings given) (decision : FlowDecision)
    (no_skip : skips_any decision ≡ false) where
  abbrev pub decided : FlowEvent
  decided = decision_event decision

  -- what is after it
  after : (answers : List Applied) × (fates : Fates) × IsAfter setup.flow_record.first setup.flow_record.window (none.events ++ decided ∷ []) answers fates
  after =
      let found = after-exists setup.flow_record.first setup.flow_record.window (none.events ++ decided ∷ []) in
      (found.0, found.1, found.3)

  stays : after.1 ≡ no_fates
  stays =
      (gaps-nothing setup.flow_record.first setup.flow_record.window (none.events ++ decided ∷ []) after.0 after.1 after.2
      (no-arrival none.events decided none.no_arrival (decides-gap decision no_skip)) (no-skip none.events decided none.no_skip (decides-gap decision no_skip))).0

  is-after : IsAfter setup.flow_record.first setup.flow_record.window (none.events ++ decided ∷ []) after.0 no_fates
  is-after = subst (λ (f : Fates). IsAfter setup.flow_record.first setup.flow_record.window (none.events ++ decided ∷ []) after.0 f) stays after.2

  -- the flow still isn't begun
  pub still-not_begun : HasNotBegun setup (comings ++ handed_in decided ∷ []) given
  still-not_begun = record {
    events = none.events ++ decided ∷ [];
    lasts = none.lasts;
    ruled = decision-come setup comings none.events none.lasts no_fates no_fates decided after.0 none.ruled is-after;
    no_arrival = no-arrival none.events decided none.no_arrival (decides-gap decision no_skip);
    no_skip = no-skip none.events decided none.no_skip (decides-gap decision no_skip);
    nothing = none.nothing;
  }

  -- and nothing is lost
  pub told-nothing : IsToldLost setup comings decided false
  told-nothing =
      let first = setup.flow_record.first in
      let width = setup.flow_record.window in
      let s = leads-split first width none.events (decided ∷ []) after.0 no_fates no_fates is-after in
      let mid = (gaps-nothing first width none.events s.0 s.2 s.3 none.no_arrival none.no_skip).0 in
      let one : Leads first width no_fates (decided ∷ []) s.1 no_fates = subst (λ (f : Fates). Leads first width f (decided ∷ []) s.1 no_fates) mid s.4 in
      record {
        events = none.events ++ decided ∷ [];
        lasts = none.lasts;
        fates = no_fates;
        ruled = decision-come setup comings none.events none.lasts no_fates no_fates decided after.0 none.ruled is-after;
        answers = s.0;
        answer = one.1;
        answered = subst (λ (a : List Applied). IsAfter first width (none.events ++ decided ∷ []) a no_fates)
            (s.5 ∙ ap (λ (t : List Applied). s.0 ++ t) (one.7 ∙ ap (λ (t : List Applied). one.1 ∷ t) one.6.0)) is-after;
        says = loses-nothing first width one.0 decision one.1 one.3 no_skip one.5;
      }
