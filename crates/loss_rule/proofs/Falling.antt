-- A segment that falls into the window as it stands: it comes near the expected index, and the
-- window doesn't slide.
use Rattle.std.proofs.Common.{◌≡◌, ◌≢◌, ℕ, ◌+◌, ◌<◌, ◌≤◌, inl, inr, List, length, sym, subst, arith}
use Rattle.std.proofs.lemmas.Bool.{cases_lt}
use Rattle.docsis_wire.specs.declared.segment.Segment.{Segment}
use Rattle.flow_core.specs.declared.event.Applied.{Applied}
use Rattle.flow_core.specs.declared.event.Applied.TheVariants.{DecisionSkip}
use Rattle.flow_core.specs.Fates.{Fates, number_of, IsExpected}
use Rattle.flow_core.specs.Events.{FlowEvent, skip_to, IsAhead, Leads}
use Rattle.flow_core.proofs.Deciding.{IsAhead-once}
use Rattle.flow_core.proofs.Nearness.{AreNumbered}
use Rattle.flow_core.proofs.Outcome.{expected-unique, onward-changes}
use Rattle.loss_rule.specs.declared.rule.LossRule.{LossRule}
use Rattle.loss_rule.specs.declared.rule.LossRule.TheVariants.{Decided, Passed, PassedOrSlid}
use Rattle.loss_rule.specs.Rule.{Coming, on_channel, RuledFlow, HasChannel, Lasts, Notes, IsPassing}
use Rattle.loss_rule.specs.InOrder.{Comes, AreInChannelOrder, NeedNoSlide}
use Rattle.loss_rule.specs.Inside.Reached.{IsReached}
use Rattle.loss_rule.specs.Inside.Arrival.{AreBounded, IsUpToDate, Slides, ArrivesBy}
use Rattle.loss_rule.specs.Inside.Order.{IsInStep, AreWithin}
use Rattle.loss_rule.proofs.Reaching.{reached-sound}
use Rattle.loss_rule.proofs.RuledTurns.{ruled-reached}
use Rattle.loss_rule.proofs.Prompt.{up_to_date-after}
use Rattle.loss_rule.proofs.Noting.{own-ahead, noted-bounded}
use Rattle.loss_rule.proofs.Passing.{passing-skips}
use Rattle.loss_rule.proofs.ChannelOrder.{comes-here, number-at}
use Rattle.loss_rule.proofs.InStep.{between-ahead}

-- a number that lies ahead is not that of an index that lies 4096 to 8191 after the expected one
between-numbers : (first x number index k : ℕ) → IsAhead first x number index → number ≡ number_of first k → x + 4096 ≤ k → k < x + 8192 → ⊥
between-numbers first x number index k ahead numbered from to = omega arith

-- A segment of the flow whose index lies within the window once what every channel has passed is
-- skipped was near before.
module _ (flow : RuledFlow) (narrow : flow.width ≤ 4096) (lasts noted : Lasts) (fates between : Fates) (channel x y k number : ℕ) (passing : List FlowEvent)
    (answers : List Applied) (r : IsReached flow.first flow.width fates) (expected : IsExpected fates x) (known : AreBounded lasts x)
    (notes : Notes flow.first x channel number lasts noted) (passes : IsPassing flow noted x passing)
    (leads : Leads flow.first flow.width fates passing answers between) (expected_between : IsExpected between y) (has : HasChannel flow channel)
    (numbered : number ≡ number_of flow.first k) (within : k < y + flow.width) where
  pub within-near : k < x + 4096
  within-near =
      elim (passing-skips flow noted x fates between passing answers expected (noted-bounded flow.first x channel number lasts noted notes known) passes leads) [
        | inr (none, same) ↦
            let at = expected-unique between x y (subst (λ (f : Fates). IsExpected f x) (sym same) expected) expected_between in
            omega arith
        | inl (least, is, ahead, any, skips) ↦ elim (cases_lt k (x + 4096)) [
          | inl near ↦ near
          | inr far ↦
              let last = is.each channel has in
              let own = own-ahead flow.first x channel number lasts noted notes last.0 last.1 in
              let moved = onward-changes flow.first flow.width x y (skip_to (number_of flow.first least)) (DecisionSkip any) fates between narrow
              (reached-sound flow.first flow.width fates x r expected) skips expected_between in
              absurd (between-numbers flow.first x number last.0 k own numbered far (omega (arith, moved.1)))
        ]
      ]

-- so where no window has to slide, all comes within it
pub fall-within : (rule : LossRule) (looks : rule ≢ Decided) (flow : RuledFlow) (narrow : flow.width ≤ 4096) (segments : List Segment) (comings : List Coming)
    (index_at : ℕ → ℕ) → AreNumbered flow.first segments → AreInChannelOrder flow segments comings index_at → NeedNoSlide rule flow comings index_at
    → AreWithin rule flow comings index_at
fall-within rule looks flow narrow segments comings index_at numbered order fall before behind channel x y segment events passing answers lasts noted fates between
    e are in_step expected notes passes leads expected_between =
    let here = comes-here comings before behind (on_channel channel segment) e in
    let known = up_to_date-after rule flow looks before events lasts fates are in
    let r = ruled-reached rule flow before events lasts fates are in
    let within = fall before behind channel x y segment events passing answers lasts noted fates between e are expected notes passes leads expected_between in (
      within-near flow narrow lasts noted fates between channel x y (index_at (length before)) segment.head.sequence passing answers r expected
          (known.bounded x expected) notes passes leads expected_between (order.on_flow (length before) channel segment here)
          (number-at flow segments comings index_at numbered order (length before) channel segment here) within,
      within,
    )

-- Where it lies within the window, the window doesn't slide.
module _ (flow : RuledFlow) (segments : List Segment) (comings : List Coming) (index_at : ℕ → ℕ) (numbered : AreNumbered flow.first segments)
    (order : AreInChannelOrder flow segments comings index_at)
    (n channel : ℕ) (segment : Segment) (here : Comes comings n channel segment) (lasts : Lasts) (fates : Fates)
    (known : IsUpToDate flow lasts fates) (in_step : IsInStep flow comings index_at n lasts fates)
    (rule : LossRule) (events : List FlowEvent) (answers : List Applied) (noted : Lasts) (after : Fates) (r : IsReached flow.first flow.width fates)
    (t : ArrivesBy rule flow lasts fates channel segment events answers noted after) (near : index_at n < t.x + 4096) (within : index_at n < t.y + flow.width) where
  pub no-slide : t.slid ≡ t.between
  no-slide = none-slid rule t.slides
    where
      none-slid : (by : LossRule) → Slides by flow t.y segment.head.sequence t.sliding → t.slid ≡ t.between
      none-slid Decided slides = absurd slides
      none-slid Passed slides = (subst (λ s. Leads flow.first flow.width t.between s t.sliding_answers t.slid) slides t.leads_sliding).1
      none-slid PassedOrSlid (inr slides) = (subst (λ s. Leads flow.first flow.width t.between s t.sliding_answers t.slid) slides.1 t.leads_sliding).1
      none-slid PassedOrSlid (inl (index, ahead, far, _)) =
          let same = IsAhead-once flow.first t.y segment.head.sequence index (index_at n) ahead
          (between-ahead flow segments comings index_at numbered order n channel segment here lasts fates known in_step rule events answers noted after r t near) in
          absurd (omega arith)
