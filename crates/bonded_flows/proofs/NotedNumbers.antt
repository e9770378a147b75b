-- What a bonded flow notes, and what it skips then.
use Rattle.std.proofs.Common.{◌≡◌, ◌≢◌, ◌⊎◌, inl, inr, ℕ, ◌<◌, Bool, Option, None, Some, List, slice_set, refl, ap, sym, subst, ◌∙◌, append-nil}
use Rattle.flow_core.specs.declared.flow.Flow.{Flow}
use Rattle.flow_core.specs.declared.event.Applied.{Applied}
use Rattle.flow_core.specs.Fates.{Fates, number_of, IsExpected}
use Rattle.flow_core.specs.Events.{FlowEvent, skip_to, IsAfter}
use Rattle.flow_core.specs.Stands.{TakesEvent as FlowTakesEvent}
use Rattle.flow_core.proofs.Outcome.{expected-unique}
use Rattle.flow_core.proofs.OneFates.{after-once}
use Rattle.loss_rule.specs.declared.last_numbers.LastNumbers.{LastNumbers}
use Rattle.loss_rule.specs.declared.rule.LossRule.TheVariants.{Decided}
use Rattle.loss_rule.specs.Rule.{Lasts, Notes, IsPassing, IsSliding}
use Rattle.loss_rule.specs.Numbers.{carried_of, distances_of, expected_of, ahead_distance, skips_to, AreDistancesOf, IsPassedByAll, IsSlidTo}
use Rattle.loss_rule.proofs.TiedNumbers.{tied-noted}
use Rattle.loss_rule.proofs.TiedSkips.{tied-passing, tied-sliding}
use Rattle.bonded_flows.specs.declared.bonded_flow.BondedFlow.{BondedFlow}
use Rattle.bonded_flows.specs.FlowSetup.{FlowSetup, ruled_flow}
use Rattle.bonded_flows.specs.Stands.{HasTaken, IsUpToDate, SlidesNext}
use Rattle.bonded_flows.specs.Taking.{SkipsPassed}
use Rattle.bonded_flows.proofs.TakenEvents.{still-made, expects-number, counts-from, event-taken}

module _ (check : List ℕ → Bool) (setup : FlowSetup) (bonded : BondedFlow) (events : List FlowEvent) (lasts : Lasts) (given : List (List ℕ))
    (has : HasTaken check setup bonded events lasts given) (up : IsUpToDate bonded) where
  -- what is expected after the events is the flow's expected index
  pub expected-here : (answers : List Applied) (fates : Fates) (x : ℕ) → IsAfter setup.flow_record.first setup.flow_record.window events answers fates
      → IsExpected fates x → x ≡ has.stands.x
  expected-here answers fates x is expected =
      let same = (after-once setup.flow_record.first setup.flow_record.window events answers has.answers fates has.stands.fates is has.stands.after).1 in
      expected-unique has.stands.fates x has.stands.x (subst (λ (f : Fates). IsExpected f x) same expected) has.stands.expected

  -- A segment with this number came on a channel, and that is noted.
  module _ (channel number : ℕ) (lasts' : LastNumbers) (small : number < 8192)
      (carried : carried_of lasts' ≡ carried_of bonded.lasts) (stays : expected_of lasts' ≡ expected_of bonded.lasts)
      (wrote : distances_of lasts' ≡ slice_set (distances_of bonded.lasts) channel (ahead_distance (expected_of bonded.lasts) number))
      (noted : Lasts) (notes : Notes setup.flow_record.first has.stands.x channel number lasts noted) where
    noted-here : Notes setup.flow_record.first has.from channel number lasts noted
    noted-here = subst (λ k. Notes setup.flow_record.first k channel number lasts noted) (sym (counts-from check setup bonded events lasts given has up)) notes

    pub number-noted : HasTaken check setup (record bonded { lasts = lasts' }) events noted given
    number-noted = record {
      made = still-made setup bonded bonded.flow lasts' bonded.pending has.made carried;
      answers = has.answers;
      y = has.y;
      stands = has.stands;
      from = has.from;
      number = stays ∙ has.number;
      distances = subst (AreDistancesOf has.from noted)
          (ap (λ n. slice_set (distances_of bonded.lasts) channel (ahead_distance n number)) (sym has.number) ∙ sym wrote)
          (tied-noted setup.flow_record.first has.from channel number lasts noted (distances_of bonded.lasts) small has.distances noted-here);
      onward = has.onward;
      near = has.near;
    }

  -- the number to which every channel has come is that of the rule
  pub passing-is : (passed : Option ℕ) → IsPassedByAll (carried_of bonded.lasts) (distances_of bonded.lasts) (expected_of bonded.lasts) passed
      → IsPassing (ruled_flow setup) lasts has.stands.x (skips_to passed)
  passing-is passed by_all =
      let flow = ruled_flow setup in
      let of_flow : IsPassedByAll setup.channels (distances_of bonded.lasts) (number_of setup.flow_record.first has.from) passed =
      subst (λ n. IsPassedByAll setup.channels (distances_of bonded.lasts) n passed) has.number
      (subst (λ c. IsPassedByAll c (distances_of bonded.lasts) (expected_of bonded.lasts) passed) has.made.carried by_all) in
      subst (λ k. IsPassing flow lasts k (skips_to passed)) (counts-from check setup bonded events lasts given has up)
      ((tied-passing flow has.from lasts (distances_of bonded.lasts) has.distances passed (skips_to passed) of_flow).1 refl)

  -- and the number to which the window slides
  pub sliding-is : (number : ℕ) (slid : Option ℕ) (sliding : List FlowEvent) → number < 8192 → IsSlidTo bonded.flow.window.expected bonded.width number slid
      → SlidesNext setup events number sliding → sliding ≡ skips_to slid
  sliding-is number slid sliding small to (answers, fates, x, is, expected, slides) =
      let flow = ruled_flow setup in
      let range = has.made.in_range in
      let here = expected-here answers fates x is expected in
      (tied-sliding flow has.stands.x number slid sliding range.window_positive range.window_in_range small
      (subst (λ w. IsSlidTo (number_of setup.flow_record.first has.stands.x) w number slid) has.made.width
      (subst (λ n. IsSlidTo n bonded.width number slid) (expects-number check setup bonded events lasts given has up.drained) to))).0
      (subst (λ k. IsSliding flow k number sliding) here slides)

-- A segment with this number comes on a channel: it is noted, and then what every channel has
-- passed is skipped.
module _ (bonded : BondedFlow) (channel number : ℕ) (lasts' : LastNumbers) (small : number < 8192) (up : IsUpToDate bonded)
    (carried : carried_of lasts' ≡ carried_of bonded.lasts) (stays : expected_of lasts' ≡ expected_of bonded.lasts)
    (wrote : distances_of lasts' ≡ slice_set (distances_of bonded.lasts) channel (ahead_distance (expected_of bonded.lasts) number)) where
  noting : BondedFlow
  noting = record bonded { lasts = lasts' }

  up-noting : IsUpToDate (record bonded { lasts = lasts' })
  up-noting = record { drained = up.drained; expects = stays ∙ up.expects }

  module _ (check : List ℕ → Bool) (setup : FlowSetup) (taken : List FlowEvent) (lasts noted : Lasts) (given : List (List ℕ)) (answers : List Applied) (fates : Fates) (x : ℕ)
      (has : HasTaken check setup bonded taken lasts given) (is : IsAfter setup.flow_record.first setup.flow_record.window taken answers fates)
      (expected : IsExpected fates x) (notes : Notes setup.flow_record.first x channel number lasts noted) where
    at-here : x ≡ has.stands.x
    at-here = expected-here check setup bonded taken lasts given has up answers fates x is expected

    now-noted : HasTaken check setup (record bonded { lasts = lasts' }) taken noted given
    now-noted =
        number-noted check setup bonded taken lasts given has up channel number lasts' small carried stays wrote noted
        (subst (λ k. Notes setup.flow_record.first k channel number lasts noted) at-here notes)

    now-passing : (passed : Option ℕ) → IsPassedByAll (carried_of lasts') (distances_of lasts') (expected_of lasts') passed
        → IsPassing (ruled_flow setup) noted x (skips_to passed)
    now-passing passed by_all =
        subst (λ k. IsPassing (ruled_flow setup) noted k (skips_to passed))
        (sym (expected-here check setup (record bonded { lasts = lasts' }) taken noted given now-noted up-noting answers fates x is expected))
        (passing-is check setup (record bonded { lasts = lasts' }) taken noted given now-noted up-noting passed by_all)

  -- nothing is skipped
  pub passed-none : (bonded.rule ≡ Decided) ⊎ IsPassedByAll (carried_of lasts') (distances_of lasts') (expected_of lasts') None
      → SkipsPassed bonded channel number None (record bonded { lasts = lasts' })
  passed-none why check setup taken lasts noted given answers fates x has is expected notes = (
    subst (λ e. HasTaken check setup (record bonded { lasts = lasts' }) e noted given) (sym (append-nil taken))
        (now-noted check setup taken lasts noted given answers fates x has is expected notes),
    (λ _. refl),
    λ other. elim why [
      | inl decided ↦ absurd (other (sym has.made.rule ∙ decided))
      | inr by_all ↦ now-passing check setup taken lasts noted given answers fates x has is expected notes None by_all
    ],
  )

  -- or something is
  pub passed-some : (n : ℕ) (flow' : Flow) (answer : Applied) → bonded.rule ≢ Decided
      → IsPassedByAll (carried_of lasts') (distances_of lasts') (expected_of lasts') (Some n) → FlowTakesEvent bonded.flow (skip_to n) answer flow'
      → SkipsPassed bonded channel number (Some n) (record bonded { flow = flow'; lasts = lasts' })
  passed-some n flow' answer other by_all takes check setup taken lasts noted given answers fates x has is expected notes = (
    (event-taken check setup (record bonded { lasts = lasts' }) taken noted given (now-noted check setup taken lasts noted given answers fates x has is expected notes)
        up-noting (skip_to n) answer flow' takes).0,
    (λ decided. absurd (other (has.made.rule ∙ decided))),
    λ _. now-passing check setup taken lasts noted given answers fates x has is expected notes (Some n) by_all,
  )
