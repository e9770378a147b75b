-- What the rule loses before a segment lies before the index to which every channel has come, or
-- the window's width or more before the segment.
use Rattle.std.proofs.Common.{◌≡◌, ℕ, ◌+◌, ◌-◌, ◌<◌, ◌≤◌, ◌⊎◌, inl, inr, Some, None, List, refl, ap, sym, subst, ◌∙◌, arith}
use Rattle.std.proofs.lemmas.Bool.{cases_eq}
use Rattle.std.specs.FinMap as map
use Rattle.docsis_wire.specs.declared.segment.Segment.{Segment}
use Rattle.reorder.specs.declared.verdict.Verdict.TheVariants.{Late, Beyond, Repeat, Kept}
use Rattle.reorder.proofs.Items.{get-insert_same, get-insert_other}
use Rattle.flow_core.specs.declared.event.Applied.{Applied}
use Rattle.flow_core.specs.declared.event.Applied.TheVariants.{Arrival, Decision, DecisionTo, DecisionSkip}
use Rattle.flow_core.specs.Fates.{Fates, number_of, IsLost, IsExpected}
use Rattle.flow_core.specs.Events.{FlowEvent, arrives, skip_to, IsAhead, Changes, Leads}
use Rattle.flow_core.proofs.Outcome.{expected-unique, onward-changes}
use Rattle.loss_rule.specs.declared.rule.LossRule.TheVariants.{Passed, PassedOrSlid}
use Rattle.loss_rule.specs.Rule.{RuledFlow, HasChannel, Lasts, HaveComeTo, IsSliding}
use Rattle.loss_rule.specs.Inside.Reached.{IsReached}
use Rattle.loss_rule.specs.Inside.Arrival.{AreBounded, IsUpToDate, ArrivesBy}
use Rattle.loss_rule.proofs.Reaching.{reached-sound}
use Rattle.loss_rule.proofs.Noting.{own-ahead, noted-bounded}
use Rattle.loss_rule.proofs.Passing.{skip-one, skip-lost, passing-skips, lost-below_least}

-- a segment that arrives loses nothing
pub arrival-lost : (first width x i : ℕ) (segment : Segment) (answer : Applied) (fates after : Fates) → Changes first width x (arrives segment) answer fates after
    → IsLost after i → IsLost fates i
arrival-lost first width x i segment (Arrival (Late back)) fates after changes lost = ap (λ (f : Fates). map.get f i) (sym changes.1) ∙ lost
arrival-lost first width x i segment (Arrival (Beyond back)) fates after changes lost = ap (λ (f : Fates). map.get f i) (sym changes.1) ∙ lost
arrival-lost first width x i segment (Arrival (Repeat back)) fates after changes lost = ap (λ (f : Fates). map.get f i) (sym changes.1) ∙ lost
arrival-lost first width x i segment (Arrival Kept) fates after ((j, ahead, to, free), keeps) lost =
    let there : map.get (map.insert fates j (Some segment)) i ≡ Some None = ap (λ (f : Fates). map.get f i) (sym (keeps j ahead)) ∙ lost in
    elim (cases_eq i j) [
      | inl same ↦ let here = ap (map.get (map.insert fates j (Some segment))) same in let is = get-insert_same fates j (Some segment) in absurd cc
      | inr differ ↦ sym (get-insert_other fates j (Some segment) i differ) ∙ there
    ]
arrival-lost first width x i segment (Decision declared) fates after changes lost = absurd changes
arrival-lost first width x i segment (DecisionTo declared) fates after changes lost = absurd changes
arrival-lost first width x i segment (DecisionSkip skipped) fates after changes lost = absurd changes

-- so all that is lost is lost by the skip
pub just-lost : (flow : RuledFlow) (lasts noted : Lasts) (fates after : Fates) (channel i : ℕ) (segment : Segment) (events : List FlowEvent) (answers : List Applied)
    → IsUpToDate flow lasts fates → ArrivesBy Passed flow lasts fates channel segment events answers noted after → IsLost after i
    → IsLost fates i ⊎ ((least : ℕ) × HaveComeTo flow noted least × (i < least))
just-lost flow lasts noted fates after channel i segment events answers known t lost =
    let bounded = noted-bounded flow.first t.x channel segment.head.sequence lasts noted t.notes (known.bounded t.x t.expected) in
    let stays : t.slid ≡ t.between = (subst (λ s. Leads flow.first flow.width t.between s t.sliding_answers t.slid) t.slides t.leads_sliding).1 in
    let before = arrival-lost flow.first flow.width t.z i segment t.answer t.slid after t.changes lost in
    lost-below_least flow noted t.x fates t.between t.passing t.passing_answers t.expected bounded t.passes t.leads_passing i
    (subst (λ (f : Fates). IsLost f i) stays before)

-- a number ahead of two indexes, the later at most 4096 after the other, has one index
ahead-of_both : (first x y number i k : ℕ) → IsAhead first x number i → IsAhead first y number k → x ≤ y → y ≤ x + 4096 → IsAhead first x number k
ahead-of_both first x y number i k ahead ahead' from to = let same : i ≡ k = omega arith in subst (IsAhead first x number) same ahead

-- what a window loses that slides lies its width or more before the segment
module _ (flow : RuledFlow) (positive : 1 ≤ flow.width) (narrow : flow.width ≤ 4096) (lasts noted : Lasts) (fates after : Fates) (channel i : ℕ) (segment : Segment)
    (events : List FlowEvent) (answers : List Applied) (known : IsUpToDate flow lasts fates) (r : IsReached flow.first flow.width fates) (has : HasChannel flow channel)
    (t : ArrivesBy PassedOrSlid flow lasts fates channel segment events answers noted after) where
  bounded : AreBounded noted t.x
  bounded = noted-bounded flow.first t.x channel segment.head.sequence lasts noted t.notes (known.bounded t.x t.expected)

  -- the index to which it slides is ahead of what was expected before, too
  was-ahead : (index : ℕ) → IsAhead flow.first t.y segment.head.sequence index → IsAhead flow.first t.x segment.head.sequence index
  was-ahead index ahead =
      elim (passing-skips flow noted t.x fates t.between t.passing t.passing_answers t.expected bounded t.passes t.leads_passing) [
        | inr (none, same) ↦
            let at : t.y ≡ t.x = expected-unique t.between t.y t.x t.expected_between (subst (λ (f : Fates). IsExpected f t.x) (sym same) t.expected) in
            subst (λ k. IsAhead flow.first k segment.head.sequence index) at ahead
        | inl (least, is, least_ahead, any, skips) ↦
            let last = is.each channel has in
            let own = own-ahead flow.first t.x channel segment.head.sequence lasts noted t.notes last.0 last.1 in
            let moved = onward-changes flow.first flow.width t.x t.y (skip_to (number_of flow.first least)) (DecisionSkip any) fates t.between narrow
            (reached-sound flow.first flow.width fates t.x r t.expected) skips t.expected_between in
            ahead-of_both flow.first t.x t.y segment.head.sequence last.0 index own ahead moved.0 moved.1
      ]

  pub slid-lost : IsLost after i
      → IsLost fates i ⊎ ((least : ℕ) × HaveComeTo flow noted least × (i < least))
      ⊎ ((k : ℕ) × IsAhead flow.first t.x segment.head.sequence k × (i + flow.width ≤ k))
  slid-lost lost =
      elim (by_sliding t.slides) [
        | inr far ↦ inr (inr far)
        | inl before ↦ elim (lost-below_least flow noted t.x fates t.between t.passing t.passing_answers t.expected bounded t.passes t.leads_passing i before) [
          | inl earlier ↦ inl earlier
          | inr come ↦ inr (inl come)
        ]
      ]
    where
      by_sliding : IsSliding flow t.y segment.head.sequence t.sliding
          → IsLost t.between i ⊎ ((k : ℕ) × IsAhead flow.first t.x segment.head.sequence k × (i + flow.width ≤ k))
      by_sliding (inr s) =
          inl (subst (λ (f : Fates). IsLost f i) (subst (λ e. Leads flow.first flow.width t.between e t.sliding_answers t.slid) s.1 t.leads_sliding).1
          (arrival-lost flow.first flow.width t.z i segment t.answer t.slid after t.changes lost))
      by_sliding (inl (index, ahead, far, are)) =
          let end = index + 1 - flow.width in
          let to = ahead.to in
          let end_ahead : IsAhead flow.first t.y (number_of flow.first end) end = record { from = omega arith; to = omega arith; numbered = refl } in
          let one = skip-one flow.first flow.width t.y (number_of flow.first end) t.sliding_answers t.between t.slid t.expected_between
          (subst (λ e. Leads flow.first flow.width t.between e t.sliding_answers t.slid) are t.leads_sliding) in
          elim (skip-lost flow.first t.y (number_of flow.first end) end i t.between t.slid one.0 one.1 end_ahead
          (arrival-lost flow.first flow.width t.z i segment t.answer t.slid after t.changes lost)) [
            | inl before ↦ inl before
            | inr below ↦ inr (index, was-ahead index ahead, omega arith)
          ]
