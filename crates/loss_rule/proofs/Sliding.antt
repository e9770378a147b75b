-- The window that slides: no segment is beyond it.
use Rattle.std.proofs.Common.{◌≡◌, ℕ, ◌+◌, ◌-◌, ◌<◌, ◌≤◌, inl, inr, true, IsSome, Some, None, List, [], slice_get, refl, ap, sym, subst, ◌∙◌, arith}
use Rattle.std.proofs.lemmas.Bool.{cases_lt}
use Rattle.std.proofs.lemmas.Option.{slice_get_within}
use Rattle.reorder.proofs.Items.{get-insert_same}
use Rattle.std.specs.FinMap as map
use Rattle.docsis_wire.specs.declared.segment.Segment.{Segment}
use Rattle.reorder.specs.declared.verdict.Verdict.TheVariants.{Beyond}
use Rattle.flow_core.specs.declared.event.Applied.{Applied}
use Rattle.flow_core.specs.declared.event.Applied.TheVariants.{Arrival}
use Rattle.flow_core.specs.Fates.{Fates, number_of, IsKept, IsOpen, IsExpected}
use Rattle.flow_core.specs.Events.{FlowEvent, arrives, IsAhead, Changes, Leads}
use Rattle.flow_core.proofs.Deciding.{IsAhead-once, open_or_settled}
use Rattle.flow_core.proofs.Outcome.{IsSound, expected-unique, open_and_settled}
use Rattle.flow_core.proofs.Skipping.{skip-reaches}
use Rattle.loss_rule.specs.declared.rule.LossRule.TheVariants.{PassedOrSlid}
use Rattle.loss_rule.specs.Rule.{RuledFlow, HasChannel, Lasts, IsSliding}
use Rattle.loss_rule.specs.Inside.Reached.{IsReached}
use Rattle.loss_rule.specs.Inside.Arrival.{IsUpToDate, SlidTo, ArrivesBy}
use Rattle.loss_rule.proofs.Noting.{noted-own, noted-bounded}
use Rattle.loss_rule.proofs.InStep.{kept-or_beyond}
use Rattle.loss_rule.proofs.Reaching.{fate-stays, reached-sound, expected-onward}
use Rattle.loss_rule.proofs.Passing.{skip-one, skip-leaves, passing-leaves}
use Rattle.loss_rule.proofs.Prompt.{between-reached, between-settled, slid-settled}
use Rattle.loss_rule.proofs.ArrivalAnswers.{answer-last}

-- an index from the end of the window on is open
pub beyond-open : (width : ℕ) (fates : Fates) (x i : ℕ) → IsSound width fates x → x + width ≤ i → IsOpen fates i
beyond-open width fates x i sound from =
    elim (open_or_settled fates i) [
      | inl free ↦ free
      | inr (None, is) ↦ let below = sound.lost_below i is in absurd (omega arith)
      | inr (Some segment, is) ↦ let within = sound.kept_within i (segment, is) in absurd (omega arith)
    ]

module _ (flow : RuledFlow) (positive : 1 ≤ flow.width) (number y z : ℕ) (between slid : Fates) (sliding : List FlowEvent) (answers : List Applied)
    (r : IsReached flow.first flow.width between) (expected : IsExpected between y) (expected' : IsExpected slid z)
    (slides : IsSliding flow y number sliding) (leads : Leads flow.first flow.width between sliding answers slid) where
  pub slid-to : SlidTo flow number y z between slid
  slid-to =
      elim slides [
        | inr s ↦ inr (s.0, (let none : Leads flow.first flow.width between [] answers slid = subst (λ e. Leads flow.first flow.width between e answers slid) s.1 leads in none.1))
        | inl (index, ahead, far, are) ↦
            let end = index + 1 - flow.width in
            let to = ahead.to in
            let from : y ≤ end = omega arith in
            let before : end ≤ index = omega arith in
            let end_ahead : IsAhead flow.first y (number_of flow.first end) end = record { from = from; to = omega arith; numbered = refl } in
            let one = skip-one flow.first flow.width y (number_of flow.first end) answers between slid expected
            (subst (λ e. Leads flow.first flow.width between e answers slid) are leads) in
            let reaches = skip-reaches flow.first y (number_of flow.first end) between slid one.0 one.1 z end expected end_ahead expected' in
            let free : IsOpen slid index =
            skip-leaves flow.first y (number_of flow.first end) end index between slid one.0 one.1 end_ahead before
            ∙ beyond-open flow.width between y index (reached-sound flow.first flow.width between y r expected) far in
            let near : z ≤ index = elim (cases_lt index z) [
              | inl below ↦ absurd (open_and_settled slid index free (expected'.settled index below))
              | inr from' ↦ from'
            ] in
            inl (index, ahead, record { from = near; to = omega arith; numbered = ahead.numbered }, omega arith, free)
      ]

-- By the sliding rule the answer to a segment that comes is never that it lies beyond the window.
module _ (flow : RuledFlow) (positive : 1 ≤ flow.width) (lasts : Lasts) (fates : Fates) (channel : ℕ) (segment : Segment) (events : List FlowEvent) (answers : List Applied)
    (noted : Lasts) (after : Fates) (r : IsReached flow.first flow.width fates)
    (t : ArrivesBy PassedOrSlid flow lasts fates channel segment events answers noted after) where
  pub slid-here : SlidTo flow segment.head.sequence t.y t.z t.between t.slid
  slid-here =
      slid-to flow positive segment.head.sequence t.y t.z t.between t.slid t.sliding t.sliding_answers
      (between-reached PassedOrSlid flow lasts fates channel segment events answers noted after r t) t.expected_between t.expected_slid t.slides t.leads_sliding

  -- it isn't the answer to the arrival
  never-beyond : (back : Segment) → Changes flow.first flow.width t.z (arrives segment) (Arrival (Beyond back)) t.slid after → ⊥
  never-beyond back ((i, ahead, far, _), _) =
      elim slid-here [
        | inl (index, was_ahead, is_ahead, near, free) ↦
            let same = IsAhead-once flow.first t.z segment.head.sequence i index ahead is_ahead in
            omega arith
        | inr (within, same) ↦
            let at : t.z ≡ t.y = expected-unique t.between t.z t.y (subst (λ (f : Fates). IsExpected f t.z) same t.expected_slid) t.expected_between in
            let near = within i (subst (λ k. IsAhead flow.first k segment.head.sequence i) at ahead) in
            omega arith
      ]

  -- nor any other
  pub none-beyond : (k : ℕ) (back : Segment) → slice_get answers k ≡ Some (Arrival (Beyond back)) → ⊥
  none-beyond k back is =
      never-beyond back (subst (λ a. Changes flow.first flow.width t.z (arrives segment) a t.slid after)
      (answer-last PassedOrSlid flow lasts fates channel segment events answers noted after t k (Beyond back) is) t.changes)

  -- and what lies the width of the window before it, or more, is settled
  pub width-settled : (x i j : ℕ) → IsExpected fates x → IsAhead flow.first x segment.head.sequence i → j + flow.width ≤ i → IsSome (map.get after j)
  width-settled x i j expected ahead before =
      let onward = expected-onward flow.first flow.width x t.y t.passing t.passing_answers fates t.between r expected t.leads_passing t.expected_between in
      let by_between = between-settled PassedOrSlid flow lasts fates channel segment events answers noted after r t j in
      elim (cases_lt i t.y) [
        | inl below ↦ by_between (t.expected_between.settled j (omega arith))
        | inr from ↦
            let to = ahead.to in
            let still : IsAhead flow.first t.y segment.head.sequence i = record { from = from; to = omega arith; numbered = ahead.numbered } in
            elim slid-here [
              | inl (index, was_ahead, is_ahead, near, free) ↦
                  let same = IsAhead-once flow.first t.y segment.head.sequence index i was_ahead still in
                  slid-settled PassedOrSlid flow lasts fates channel segment events answers noted after r t j (t.expected_slid.settled j (omega arith))
              | inr (within, same) ↦
                  let near = within i still in
                  by_between (t.expected_between.settled j (omega arith))
            ]
      ]

  -- The segment that comes is kept, or was kept before, where its channel is one of the flow's and
  -- its number lies ahead.
  pub arrived-kept : (x i : ℕ) → IsUpToDate flow lasts fates → HasChannel flow channel → Leads flow.first flow.width fates events answers after
      → IsExpected fates x → IsAhead flow.first x segment.head.sequence i → IsKept after i
  arrived-kept x i known has leads expected ahead =
      let at : x ≡ t.x = expected-unique fates x t.x expected t.expected in
      let sound = reached-sound flow.first flow.width fates x r expected in
      elim (open_or_settled fates i) [
        | inr (Some before, is) ↦ (before, fate-stays flow.first flow.width i (Some before) events answers fates after r leads is)
        | inr (None, is) ↦ let below = sound.lost_below i is in let from = ahead.from in absurd (omega arith)
        | inl free ↦
            let here = subst (λ k. IsAhead flow.first k segment.head.sequence i) at ahead in
            let last = noted-own flow.first t.x channel segment.head.sequence lasts noted t.notes i
            (subst (λ l. channel < l) (sym known.size) (slice_get_within flow.channels channel true has)) here in
            let bounded = noted-bounded flow.first t.x channel segment.head.sequence lasts noted t.notes (known.bounded t.x t.expected) in
            let still : IsOpen t.between i =
            passing-leaves flow noted t.x fates t.between t.passing t.passing_answers t.expected bounded t.passes t.leads_passing channel i i has last (omega arith) ∙ free in
            let onward = expected-onward flow.first flow.width x t.y t.passing t.passing_answers fates t.between r expected t.leads_passing t.expected_between in
            let to = ahead.to in
            let from : t.y ≤ i = elim (cases_lt i t.y) [
              | inl below ↦ absurd (open_and_settled t.between i still (t.expected_between.settled i below))
              | inr from' ↦ from'
            ] in
            let between_ahead : IsAhead flow.first t.y segment.head.sequence i = record { from = from; to = omega arith; numbered = ahead.numbered } in
            now-kept i (elim slid-here [
              | inl (index, was_ahead, is_ahead, near, open_still) ↦
                  let same = IsAhead-once flow.first t.y segment.head.sequence index i was_ahead between_ahead in
                  (subst (IsAhead flow.first t.z segment.head.sequence) same is_ahead, subst (λ k. k < t.z + flow.width) same near, subst (IsOpen t.slid) same open_still)
              | inr (within, same) ↦
                  let at_z : t.y ≡ t.z = sym (expected-unique t.between t.z t.y (subst (λ (f : Fates). IsExpected f t.z) same t.expected_slid) t.expected_between) in (
                    subst (λ k. IsAhead flow.first k segment.head.sequence i) at_z between_ahead,
                    subst (λ k. i < k + flow.width) at_z (within i between_ahead),
                    subst (λ (f : Fates). IsOpen f i) (sym same) still,
                  )
            ])
      ]
    where
      now-kept : (i : ℕ) → IsAhead flow.first t.z segment.head.sequence i × (i < t.z + flow.width) × IsOpen t.slid i → IsKept after i
      now-kept i (is_ahead, near, free) =
          elim (kept-or_beyond flow.first flow.width t.z i segment t.answer t.slid after is_ahead free t.changes) [
            | inl (_, _, is) ↦ (segment, ap (λ (f : Fates). map.get f i) is ∙ get-insert_same t.slid i (Some segment))
            | inr (_, far, _) ↦ absurd (omega arith)
          ]
