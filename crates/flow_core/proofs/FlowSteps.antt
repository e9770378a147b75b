-- What the calls of a core make of one flow and what it has given.
use Rattle.std.proofs.Common.{◌≡◌, ℕ, ◌+◌, ◌<◌, inl, inr, Bool, true, cond, List, [], ◌∷◌, ◌++◌, replicate, refl, ap, sym, subst, ◌∙◌, arith, count_by, append_assoc}
use Rattle.std.proofs.lemmas.List.Sums.{sum_by_push}
use Rattle.std.proofs.lemmas.List.{replicate_more}
use Rattle.std.proofs.lemmas.Option.{same_Some}
use Rattle.reorder.specs.declared.verdict.Declared.{Declared}
use Rattle.flow_records.specs.declared.record.FlowRecord.{FlowRecord}
use Rattle.flow_core.specs.declared.flow.Flow.{Flow}
use Rattle.flow_core.specs.declared.flows.Core.{Core}
use Rattle.flow_core.specs.declared.event.Step.TheVariants.{Frames, Nothing}
use Rattle.flow_core.specs.declared.event.Applied.{Applied}
use Rattle.flow_core.specs.declared.event.Applied.TheVariants.{Decision}
use Rattle.flow_core.specs.Fates.{IsKept, IsExpected}
use Rattle.flow_core.specs.Events.{FlowEvent, gap}
use Rattle.flow_core.specs.Stands.{StandsFor, IsDrained}
use Rattle.flow_core.specs.Flows.{OthersStay, TakesEventAt, AdvancesAt, IsDrainedAt, IsLoss, ClosesGapAt}
use Rattle.flow_core.specs.Closing.{says_lost}
use Rattle.flow_core.specs.Giving.{HasGiven, HasDrained}
use Rattle.flow_core.proofs.Giving.{drained_of_expected}

-- no call leaves all as it was
pub others_never : {C : Type 0} (core : Core C) (k : ℕ) → OthersStay core core k
others_never core k = record { check = refl; count = refl; others = λ j differ. refl }

-- and two calls on a flow what both leave
pub others_twice : {C : Type 0} (core between after : Core C) (k : ℕ) → OthersStay core between k → OthersStay between after k → OthersStay core after k
others_twice core between after k p q =
    record {
      check = q.check ∙ p.check;
      count = q.count ∙ p.count;
      others = λ j differ. q.others j differ ∙ p.others j differ;
    }

module _ {C : Type 0} (accepts : C → List ℕ → Bool) (core after : Core C) (k : ℕ) (accepted : List ℕ → Bool) (r : FlowRecord) (events : List FlowEvent) (given : List (List ℕ))
    (others : OthersStay core after k) (h : HasGiven accepts core k accepted r events given) where
  same_accepted : accepts after.check ≡ accepted
  same_accepted = ap accepts others.check ∙ h.accepted_are

  -- it advanced: the segment to which it had come was kept
  pub after_advance : (frames : _) → AdvancesAt accepts core k (Frames frames) after
      → (a : HasGiven accepts after k accepted r events (given ++ frames.items)) × (h.y < a.y) × IsKept h.stands.fates h.y
  after_advance frames advances =
      let there = advances h.flow h.there in
      let stands : StandsFor (accepts core.check) r h.flow events h.answers h.y given =
      subst (λ p. StandsFor p r h.flow events h.answers h.y given) (sym h.accepted_are) h.stands in
      let gives = there.2.1 r events h.answers h.y given stands in (
        record {
          accepted_are = same_accepted;
          flow = there.0;
          there = there.1;
          answers = h.answers;
          y = gives.0;
          stands = subst (λ p. StandsFor p r there.0 events h.answers gives.0 (given ++ frames.items)) h.accepted_are gives.2;
        },
        gives.1,
        elim h.stands.come_to [
          | inl same ↦ absurd (there.2.0 (drained_of_expected accepted r h.flow events h.answers h.y given h.stands (subst (IsExpected h.stands.fates) (sym same) h.stands.expected)))
          | inr (less, kept) ↦ kept
        ],
      )

  -- or nothing was next
  pub after_nothing : AdvancesAt accepts core k Nothing after → HasDrained accepts after k accepted r events given
  after_nothing advances =
      let there = advances h.flow h.there in
      let stays = there.2 in
      record {
        has_given = record {
          accepted_are = same_accepted;
          flow = there.0;
          there = there.1;
          answers = h.answers;
          y = h.y;
          stands = subst (λ (f : Flow). StandsFor accepted r f events h.answers h.y given) (sym stays.1) h.stands;
        };
        drained = subst IsDrained (sym stays.1) stays.0;
      }

  -- it took an event
  pub after_event : (event : FlowEvent) (answer : Applied) → TakesEventAt core k event answer after
      → (a : HasGiven accepts after k accepted r (events ++ event ∷ []) given) × (a.answers ≡ h.answers ++ answer ∷ [])
  after_event event answer takes =
      let there = takes h.flow h.there in
      let next = there.2 accepted r events h.answers h.y given h.stands in (
        record {
          accepted_are = same_accepted;
          flow = there.0;
          there = there.1;
          answers = h.answers ++ answer ∷ [];
          y = next.0;
          stands = next.1;
        },
        refl,
      )

-- one loss more
lost_once_more : (answers : List Applied) (declared : Declared) → IsLoss declared → count_by says_lost (answers ++ Decision declared ∷ []) ≡ count_by says_lost answers + 1
lost_once_more answers declared loss =
    sum_by_push (λ a. cond (says_lost a) 1 0) answers (Decision declared) ∙ ap (λ d. count_by says_lost answers + cond {A = ℕ} (says_lost (Decision d)) 1 0) loss.1

module _ {C : Type 0} (accepts : C → List ℕ → Bool) (core : Core C) (k : ℕ) (accepted : List ℕ → Bool) (r : FlowRecord) where
  -- no segment of the flow is next
  pub drained_at : (events : List FlowEvent) (given : List (List ℕ)) → HasDrained accepts core k accepted r events given → IsDrainedAt core k
  drained_at events given d = record { flow = d.has_given.flow; there = d.has_given.there; drained = d.drained }

  -- so of the one that has given these frames
  pub drained_of : (events : List FlowEvent) (given : List (List ℕ)) → IsDrainedAt core k → (h : HasGiven accepts core k accepted r events given) → IsDrained h.flow
  drained_of events given at h = subst IsDrained (same_Some at.flow h.flow (sym at.there ∙ h.there)) at.drained

  -- the same events and the same frames, said in another way
  pub said_as : (events others : List FlowEvent) (given again : List (List ℕ)) → events ≡ others → given ≡ again → (h : HasGiven accepts core k accepted r events given)
      → (a : HasGiven accepts core k accepted r others again) × (a.y ≡ h.y) × (a.answers ≡ h.answers)
  said_as events others given again same_events same_given h = (
    record {
      accepted_are = h.accepted_are;
      flow = h.flow;
      there = h.there;
      answers = h.answers;
      y = h.y;
      stands = subst (λ e. StandsFor accepted r h.flow e h.answers h.y again) same_events (subst (λ g. StandsFor accepted r h.flow events h.answers h.y g) same_given h.stands);
    },
    refl,
    refl,
  )

  -- the same frames
  pub given_as : (events : List FlowEvent) (given again : List (List ℕ)) → given ≡ again → (h : HasGiven accepts core k accepted r events given)
      → (a : HasGiven accepts core k accepted r events again) × (a.y ≡ h.y) × (a.answers ≡ h.answers)
  given_as events given again same h = said_as events events given again refl same h

  -- the same events
  pub events_as : (events others : List FlowEvent) (given : List (List ℕ)) → events ≡ others → (h : HasGiven accepts core k accepted r events given)
      → (a : HasGiven accepts core k accepted r others given) × (a.answers ≡ h.answers)
  events_as events others given same h = let a = said_as events others given given same refl h in (a.0, a.2)

-- a gap that declares a loss
pub after_loss : {C : Type 0} (accepts : C → List ℕ → Bool) (core after : Core C) (k : ℕ) (accepted : List ℕ → Bool) (r : FlowRecord) (events : List FlowEvent) (given : List (List ℕ)) (m n : ℕ)
    (lost : Bool) → OthersStay core after k → ClosesGapAt core k lost after → lost ≡ true
    → (h : HasGiven accepts core k accepted r (events ++ replicate n gap) given) → count_by says_lost h.answers ≡ m + n
    → (a : HasGiven accepts after k accepted r (events ++ replicate (n + 1) gap) given) × (count_by says_lost a.answers ≡ m + (n + 1))
after_loss accepts core after k accepted r events given m n lost others closes is h count =
    let e = after_event accepts core after k accepted r (events ++ replicate n gap) given others h gap (Decision closes.declared) closes.taken in
    let same : (events ++ replicate n gap) ++ gap ∷ [] ≡ events ++ replicate (n + 1) gap = append_assoc events (replicate n gap) (gap ∷ []) ∙ ap (λ t. events ++ t) (replicate_more n gap) in
    let a = events_as accepts after k accepted r ((events ++ replicate n gap) ++ gap ∷ []) (events ++ replicate (n + 1) gap) given same e.0 in
    let more = ap (count_by says_lost) a.1 ∙ ap (count_by says_lost) e.1 ∙ lost_once_more h.answers closes.declared (closes.answer.0 is) in
    (a.0, omega arith)
