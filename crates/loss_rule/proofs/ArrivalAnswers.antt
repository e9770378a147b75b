-- Which answers are those of arrivals.
use Rattle.std.proofs.Common.{◌≡◌, ℕ, zero, suc, ◌⊎◌, inl, inr, Some, List, [], ◌∷◌, ◌++◌, slice_get, refl, ap, sym, subst, ◌∙◌}
use Rattle.docsis_wire.specs.declared.segment.Segment.{Segment}
use Rattle.reorder.specs.declared.verdict.Verdict.{Verdict}
use Rattle.flow_core.specs.declared.event.Applied.{Applied}
use Rattle.flow_core.specs.declared.event.Applied.TheVariants.{Arrival}
use Rattle.flow_core.specs.Fates.{Fates}
use Rattle.flow_core.specs.Events.{FlowEvent, arrives, gap, gap_to, skip_to, Changes, Leads}
use Rattle.flow_core.specs.Closing.{HaveNoArrival}
use Rattle.loss_rule.specs.declared.rule.LossRule.{LossRule}
use Rattle.loss_rule.specs.declared.rule.LossRule.TheVariants.{Decided, Passed, PassedOrSlid}
use Rattle.loss_rule.specs.Rule.{RuledFlow, Lasts, IsPassing}
use Rattle.loss_rule.specs.Inside.Arrival.{Slides, ArrivesBy}
use Rattle.loss_rule.specs.Inside.Verdicts.{EachVerdict}

-- only an arrival has the answer of one
arrival-answer : (first width x : ℕ) (event : FlowEvent) (verdict : Verdict Segment) (fates after : Fates) → Changes first width x event (Arrival verdict) fates after
    → (segment : Segment) × (event ≡ arrives segment)
arrival-answer first width x (arrives segment) verdict fates after changes = (segment, refl)
arrival-answer first width x gap verdict fates after changes = absurd changes
arrival-answer first width x (gap_to number) verdict fates after changes = absurd changes
arrival-answer first width x (skip_to number) verdict fates after changes = absurd changes

-- a list of events of which none is an arrival has no such answer
no_arrival-answers : (first width k : ℕ) (verdict : Verdict Segment) (events : List FlowEvent) (answers : List Applied) (fates after : Fates) → HaveNoArrival events
    → Leads first width fates events answers after → slice_get answers k ≡ Some (Arrival verdict) → ⊥
no_arrival-answers first width k verdict [] answers fates after none leads is = let at = ap (λ a. slice_get a k) leads.0 in absurd cc
no_arrival-answers first width zero verdict (event ∷ events) answers fates after none (x, answer, rest, between, expected, changes, leads, are) is =
    let there : Some answer ≡ Some (Arrival verdict) = ap (λ a. slice_get a 0) (sym are) ∙ is in
    let same : answer ≡ Arrival verdict = cc in
    let found = arrival-answer first width x event verdict fates between (subst (λ a. Changes first width x event a fates between) same changes) in
    none [] events found.0 (ap (λ e. e ∷ events) found.1)
no_arrival-answers first width (suc k) verdict (event ∷ events) answers fates after none (x, answer, rest, between, expected, changes, leads, are) is =
    no_arrival-answers first width k verdict events rest between after (λ before behind segment e. none (event ∷ before) behind segment (ap (λ t. event ∷ t) e)) leads
    (ap (λ a. slice_get a (suc k)) (sym are) ∙ is)

-- nothing, and a skip, are no arrivals
pub none-no_arrival : HaveNoArrival []
none-no_arrival [] behind segment e = absurd cc
none-no_arrival (b ∷ before) behind segment e = absurd cc

-- a skip is none
pub skip-no_arrival : (number : ℕ) → HaveNoArrival (skip_to number ∷ [])
skip-no_arrival number [] behind segment e = let wrong : skip_to number ≡ arrives segment = cc in absurd cc
skip-no_arrival number (b ∷ before) behind segment e = none-no_arrival before behind segment cc

-- an element of two lists in turn is one of either
pub in_turn-cases : {X : Type 0} (front back : List X) (k : ℕ) (x : X) → slice_get (front ++ back) k ≡ Some x → (slice_get front k ≡ Some x) ⊎ ((j : ℕ) × (slice_get back j ≡ Some x))
in_turn-cases [] back k x is = inr (k, is)
in_turn-cases (f ∷ front) back zero x is = inl is
in_turn-cases (f ∷ front) back (suc k) x is = in_turn-cases front back k x is

-- what is skipped before a segment arrives is no arrival
passing-no_arrival : (flow : RuledFlow) (lasts : Lasts) (x : ℕ) (skips : List FlowEvent) → IsPassing flow lasts x skips → HaveNoArrival skips
passing-no_arrival flow lasts x skips (inl p) = subst HaveNoArrival (sym p.2) (skip-no_arrival _)
passing-no_arrival flow lasts x skips (inr p) = subst HaveNoArrival (sym p.1) none-no_arrival

-- nor what lets the window slide
pub slides-no_arrival : (rule : LossRule) (flow : RuledFlow) (y number : ℕ) (skips : List FlowEvent) → Slides rule flow y number skips → HaveNoArrival skips
slides-no_arrival Decided flow y number skips slides = absurd slides
slides-no_arrival Passed flow y number skips slides = subst HaveNoArrival (sym slides) none-no_arrival
slides-no_arrival PassedOrSlid flow y number skips (inl p) = subst HaveNoArrival (sym p.3) (skip-no_arrival _)
slides-no_arrival PassedOrSlid flow y number skips (inr p) = subst HaveNoArrival (sym p.1) none-no_arrival

-- two lists without arrivals, one after the other, have none
pub in_turn-no_arrival : (front back : List FlowEvent) → HaveNoArrival front → HaveNoArrival back → HaveNoArrival (front ++ back)
in_turn-no_arrival [] back p q before behind segment e = q before behind segment e
in_turn-no_arrival (event ∷ front) back p q [] behind segment e = let same : event ≡ arrives segment = cc in p [] front segment (ap (λ t. t ∷ front) same)
in_turn-no_arrival (event ∷ front) back p q (b ∷ before) behind segment e =
    in_turn-no_arrival front back (λ before' behind' segment' e'. p (event ∷ before') behind' segment' (ap (λ t. event ∷ t) e')) q before behind segment cc

-- so among the answers to a segment that comes only the last is that of an arrival
module _ (rule : LossRule) (flow : RuledFlow) (lasts : Lasts) (fates : Fates) (channel : ℕ) (segment : Segment) (events : List FlowEvent) (answers : List Applied)
    (noted : Lasts) (after : Fates) (t : ArrivesBy rule flow lasts fates channel segment events answers noted after) where
  pub skips-no_arrival : HaveNoArrival (t.passing ++ t.sliding)
  skips-no_arrival =
      in_turn-no_arrival t.passing t.sliding (passing-no_arrival flow noted t.x t.passing t.passes) (slides-no_arrival rule flow t.y segment.head.sequence t.sliding t.slides)

  -- an arrival's answer among them is the last one
  pub answer-last : (k : ℕ) (verdict : Verdict Segment) → slice_get answers k ≡ Some (Arrival verdict) → t.answer ≡ Arrival verdict
  answer-last k verdict is =
      elim (in_turn-cases (t.passing_answers ++ t.sliding_answers) (t.answer ∷ []) k (Arrival verdict) (ap (λ a. slice_get a k) (sym t.answers_are) ∙ is)) [
        | inl early ↦ elim (in_turn-cases t.passing_answers t.sliding_answers k (Arrival verdict) early) [
          | inl passed ↦
              absurd (no_arrival-answers flow.first flow.width k verdict t.passing t.passing_answers fates t.between
              (passing-no_arrival flow noted t.x t.passing t.passes) t.leads_passing passed)
          | inr slid ↦
              absurd (no_arrival-answers flow.first flow.width slid.0 verdict t.sliding t.sliding_answers t.between t.slid
              (slides-no_arrival rule flow t.y segment.head.sequence t.sliding t.slides) t.leads_sliding slid.1)
        ]
        | inr last ↦ last_one t.answer last.0 (Arrival verdict) last.1
      ]
    where
      last_one : (a : Applied) (j : ℕ) (b : Applied) → slice_get (a ∷ []) j ≡ Some b → a ≡ b
      last_one a zero b is = cc
      last_one a (suc j) b is = absurd cc

-- what holds of each verdict of one list and of each of another holds of both in turn
pub verdicts-in_turn : (P : Verdict Segment → Type 0) (front back : List Applied) → EachVerdict P front → EachVerdict P back → EachVerdict P (front ++ back)
verdicts-in_turn P front back p q k verdict is =
    elim (in_turn-cases front back k (Arrival verdict) is) [
      | inl early ↦ p k verdict early
      | inr late ↦ q late.0 verdict late.1
    ]

-- and of each verdict among answers to events of which none is an arrival
pub no_arrival-verdicts : (P : Verdict Segment → Type 0) (first width : ℕ) (events : List FlowEvent) (answers : List Applied) (fates after : Fates) → HaveNoArrival events
    → Leads first width fates events answers after → EachVerdict P answers
no_arrival-verdicts P first width events answers fates after none leads k verdict is = absurd (no_arrival-answers first width k verdict events answers fates after none leads is)
