-- A decision that is handed in keeps nothing, and loses nothing from the index it decides up to.
use Rattle.std.proofs.Common.{◌≡◌, ℕ, ◌+◌, ◌<◌, ◌≤◌, inl, inr, Bool, Some, None, List, [], ◌∷◌, ◌++◌, length, refl, ap, sym, subst, ◌∙◌, arith}
use Rattle.std.proofs.lemmas.Bool.{cases_eq}
use Rattle.std.specs.FinMap as map
use Rattle.docsis_wire.specs.declared.segment.Segment.{Segment}
use Rattle.reorder.proofs.Items.{get-insert_same, get-insert_other}
use Rattle.flow_core.specs.declared.event.Applied.{Applied}
use Rattle.flow_core.specs.declared.event.Applied.TheVariants.{Arrival, Decision, DecisionTo, DecisionSkip}
use Rattle.flow_core.specs.Fates.{Fates, IsKept}
use Rattle.flow_core.specs.Events.{FlowEvent, arrives, gap, gap_to, skip_to, IsAhead, LosesJust, Changes, Leads}
use Rattle.flow_core.specs.Closing.{HaveNoArrival}
use Rattle.flow_core.proofs.Closing.{gap-cases}
use Rattle.loss_rule.specs.declared.rule.LossRule.{LossRule}
use Rattle.loss_rule.specs.Rule.{Coming, on_channel, handed_in, RuledFlow, Lasts, AreRuled}
use Rattle.loss_rule.specs.InOrder.{Comes, HaveNoDecision, HandInDecisions, DecidesBefore, DecideSafely, DecideThePast}
use Rattle.loss_rule.specs.Inside.Order.{IsInStep}
use Rattle.loss_rule.proofs.ArrivalAnswers.{none-no_arrival}
use Rattle.loss_rule.proofs.ChannelOrder.{comes-here}

-- what is kept once some indexes are lost was kept before
just-lost_kept : (P : ℕ → Type 0) (any : Bool) (fates after : Fates) (i : ℕ) → LosesJust P any fates after → IsKept after i → IsKept fates i
just-lost_kept P any fates after i loses kept = (kept.0, sym (loses.others i (λ p. let lost = loses.lost i p in let is = kept.1 in absurd cc)) ∙ kept.1)

-- where one index is lost too
one-lost_kept : (fates : Fates) (x i : ℕ) → IsKept (map.insert fates x None) i → IsKept fates i
one-lost_kept fates x i kept =
    elim (cases_eq i x) [
      | inl same ↦ let lost = get-insert_same fates x None in let here = ap (map.get (map.insert fates x None)) same in let is = kept.1 in absurd cc
      | inr differ ↦ (kept.0, sym (get-insert_other fates x None i differ) ∙ kept.1)
    ]

-- so a decision keeps nothing
decision-kept : (first width x : ℕ) (event : FlowEvent) (answer : Applied) (fates after : Fates) (i : ℕ) → ((segment : Segment) → event ≡ arrives segment → ⊥)
    → Changes first width x event answer fates after → IsKept after i → IsKept fates i
decision-kept first width x (arrives segment) answer fates after i not_so changes kept = absurd (not_so segment refl)
decision-kept first width x gap answer fates after i not_so changes kept =
    elim (gap-cases first width x answer fates after changes) [
      | inl (_, is, _) ↦ one-lost_kept fates x i (subst (λ (f : Fates). IsKept f i) is kept)
      | inr (_, is, _) ↦ subst (λ (f : Fates). IsKept f i) is kept
    ]
decision-kept first width x (gap_to number) (Arrival verdict) fates after i not_so changes kept = absurd changes
decision-kept first width x (gap_to number) (Decision declared) fates after i not_so changes kept = absurd changes
decision-kept first width x (gap_to number) (DecisionTo declared) fates after i not_so changes kept = just-lost_kept _ declared fates after i changes kept
decision-kept first width x (gap_to number) (DecisionSkip skipped) fates after i not_so changes kept = absurd changes
decision-kept first width x (skip_to number) (Arrival verdict) fates after i not_so changes kept = absurd changes
decision-kept first width x (skip_to number) (Decision declared) fates after i not_so changes kept = absurd changes
decision-kept first width x (skip_to number) (DecisionTo declared) fates after i not_so changes kept = absurd changes
decision-kept first width x (skip_to number) (DecisionSkip skipped) fates after i not_so changes kept = just-lost_kept _ skipped fates after i changes kept

-- nor do events of which none is an arrival
pub no_arrival-kept : (first width i : ℕ) (events : List FlowEvent) (answers : List Applied) (fates after : Fates) → HaveNoArrival events
    → Leads first width fates events answers after → IsKept after i → IsKept fates i
no_arrival-kept first width i [] answers fates after none leads kept = subst (λ (f : Fates). IsKept f i) leads.1 kept
no_arrival-kept first width i (event ∷ events) answers fates after none (x, answer, rest, between, expected, changes, leads, are) kept =
    decision-kept first width x event answer fates between i (λ segment same. none [] events segment (ap (λ e. e ∷ events) same)) changes
    (no_arrival-kept first width i events rest between after (λ before behind segment e. none (event ∷ before) behind segment (ap (λ t. event ∷ t) e)) leads kept)

-- a decision alone is no arrival
pub one-no_arrival : (event : FlowEvent) → ((segment : Segment) → event ≡ arrives segment → ⊥) → HaveNoArrival (event ∷ [])
one-no_arrival event not_so [] behind segment e = not_so segment cc
one-no_arrival event not_so (b ∷ before) behind segment e = none-no_arrival before behind segment cc

-- from the index up to which it decides all stays
just-leaves : (first x number i : ℕ) (P : ℕ → Type 0) (any : Bool) (fates after : Fates)
    → ((j : ℕ) → P j → (end : ℕ) × IsAhead first x number end × (j + 1 ≤ end)) → ((end : ℕ) → IsAhead first x number end → end ≤ i)
    → LosesJust P any fates after → map.get after i ≡ map.get fates i
just-leaves first x number i P any fates after below from loses =
    loses.others i (λ p. let found = below i p in let there = from found.0 found.1 in omega (arith, found.2))

decision-leaves : (first width x : ℕ) (event : FlowEvent) (answer : Applied) (fates after : Fates) (i : ℕ) → ((segment : Segment) → event ≡ arrives segment → ⊥)
    → ((end : ℕ) → DecidesBefore first x event end → end ≤ i) → Changes first width x event answer fates after → map.get after i ≡ map.get fates i
decision-leaves first width x (arrives segment) answer fates after i not_so from changes = absurd (not_so segment refl)
decision-leaves first width x gap answer fates after i not_so from changes =
    elim (gap-cases first width x answer fates after changes) [
      | inl (_, is, _) ↦ (let past = from (x + 1) refl in ap (λ (f : Fates). map.get f i) is ∙ get-insert_other fates x None i (λ same. omega arith))
      | inr (_, is, _) ↦ ap (λ (f : Fates). map.get f i) is
    ]
decision-leaves first width x (gap_to number) (Arrival verdict) fates after i not_so from changes = absurd changes
decision-leaves first width x (gap_to number) (Decision declared) fates after i not_so from changes = absurd changes
decision-leaves first width x (gap_to number) (DecisionTo declared) fates after i not_so from changes =
    just-leaves first x number i _ declared fates after (λ j p. (p.end, p.ahead, (let before = p.before in omega arith))) from changes
decision-leaves first width x (gap_to number) (DecisionSkip skipped) fates after i not_so from changes = absurd changes
decision-leaves first width x (skip_to number) (Arrival verdict) fates after i not_so from changes = absurd changes
decision-leaves first width x (skip_to number) (Decision declared) fates after i not_so from changes = absurd changes
decision-leaves first width x (skip_to number) (DecisionTo declared) fates after i not_so from changes = absurd changes
decision-leaves first width x (skip_to number) (DecisionSkip skipped) fates after i not_so from changes =
    just-leaves first x number i _ skipped fates after (λ j p. (p.end, p.ahead, (let before = p.before in omega arith))) from changes

-- a decision that is handed in is no arrival
pub decides : (comings before behind : List Coming) (event : FlowEvent) → HandInDecisions comings → comings ≡ before ++ handed_in event ∷ behind
    → (segment : Segment) → event ≡ arrives segment → ⊥
decides comings before behind event decisions e segment same =
    decisions (length before) segment (comes-here comings before behind (handed_in event) e ∙ ap (λ v. Some (handed_in v)) same)

-- where there is none, all are safe
pub none-safe : (rule : LossRule) (flow : RuledFlow) (comings : List Coming) (index_at : ℕ → ℕ) → HaveNoDecision comings → DecideSafely rule flow comings index_at
none-safe rule flow comings index_at undecided = record {
  decisions = λ p segment. undecided p (arrives segment);
  safe = λ before behind q channel event segment events answers lasts fates after e are leads from is lost.
      absurd (undecided (length before) event (comes-here comings before behind (handed_in event) e));
}

-- and those about the past are
pub past-safe : (rule : LossRule) (flow : RuledFlow) (comings : List Coming) (index_at : ℕ → ℕ) → HandInDecisions comings → DecideThePast rule flow comings index_at
    → DecideSafely rule flow comings index_at
past-safe rule flow comings index_at decisions past = record {
  decisions = decisions;
  safe = λ before behind q channel event segment events answers lasts fates after e are leads from is lost.
      (let stays : map.get leads.3 (index_at q) ≡ map.get fates (index_at q) =
      decision-leaves flow.first flow.width leads.0 event leads.1 fates leads.3 (index_at q) (decides comings before behind event decisions e)
      (λ end decided. past before behind q channel leads.0 end event segment events lasts fates e are leads.4 decided from is) leads.5 in
      sym stays ∙ ap (λ (f : Fates). map.get f (index_at q)) (sym leads.6.1) ∙ lost);
}

-- What held of the first n comings holds with a decision that is safe.
module _ (rule : LossRule) (flow : RuledFlow) (comings : List Coming) (index_at : ℕ → ℕ) (safely : DecideSafely rule flow comings index_at)
    (past behind : List Coming) (before : List FlowEvent) (lasts : Lasts) (fates : Fates) (event : FlowEvent) (answers : List Applied) (after : Fates)
    (e : comings ≡ past ++ handed_in event ∷ behind) (are : AreRuled rule flow past before lasts fates)
    (leads : Leads flow.first flow.width fates (event ∷ []) answers after) where
  pub decided-no_arrival : HaveNoArrival (event ∷ [])
  decided-no_arrival = one-no_arrival event (decides comings past behind event safely.decisions e)

  -- no segment comes there
  not-there : (p channel : ℕ) (segment : Segment) → p ≡ length past → Comes comings p channel segment → ⊥
  not-there p channel segment same is =
      let here = comes-here comings past behind (handed_in event) e in
      let there : Some (on_channel channel segment) ≡ Some (handed_in event) = sym (subst (λ k. Comes comings k channel segment) same is) ∙ here in
      cc

  -- so one that came, came before
  pub came-earlier : (p channel : ℕ) (segment : Segment) → p < length past + 1 → Comes comings p channel segment → p < length past
  came-earlier p channel segment before is =
      elim (cases_eq p (length past)) [
        | inl same ↦ absurd (not-there p channel segment same is)
        | inr differ ↦ omega arith
      ]

  pub in_step-decided : IsInStep flow comings index_at (length past) lasts fates → IsInStep flow comings index_at (length past + 1) lasts after
  in_step-decided in_step = record {
    of_comings = λ channel index is.
        (let found = in_step.of_comings channel index is in (found.0, found.1, (let earlier = found.2 in omega arith), found.3, found.4));
    latest = λ p channel segment earlier is. in_step.latest p channel segment (came-earlier p channel segment earlier is) is;
    came = λ i kept.
        (let found = in_step.came i (no_arrival-kept flow.first flow.width i (event ∷ []) answers fates after decided-no_arrival leads kept) in
        (found.0, found.1, found.2, (let earlier = found.3 in omega arith), found.4, found.5));
    gone = λ q channel segment from is lost.
        in_step.gone q channel segment (omega arith) is
        (safely.safe past behind q channel event segment before answers lasts fates after e are leads (omega arith) is lost);
  }
