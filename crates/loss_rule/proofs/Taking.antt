-- When each segment that comes is taken in: where no window has to slide, and where one that slides
-- loses nothing that still comes.
use Rattle.std.proofs.Common.{◌≡◌, ◌≢◌, ℕ, ◌+◌, ◌-◌, ◌<◌, ◌≤◌, inl, inr, None, List, ◌∷◌, ◌++◌, length, refl, sym, subst, arith}
use Rattle.std.proofs.lemmas.Bool.{cases_lt}
use Rattle.docsis_wire.specs.declared.segment.Segment.{Segment}
use Rattle.flow_core.specs.declared.event.Applied.{Applied}
use Rattle.flow_core.specs.Fates.{Fates, number_of, IsLost, IsExpected}
use Rattle.flow_core.specs.Events.{FlowEvent, IsAhead, Leads}
use Rattle.flow_core.proofs.Deciding.{IsAhead-once}
use Rattle.flow_core.proofs.Nearness.{AreNumbered}
use Rattle.flow_core.proofs.Outcome.{expected-unique}
use Rattle.flow_core.proofs.Turns.{leads-in_turn}
use Rattle.loss_rule.specs.declared.rule.LossRule.{LossRule}
use Rattle.loss_rule.specs.declared.rule.LossRule.TheVariants.{Decided, Passed, PassedOrSlid}
use Rattle.loss_rule.specs.Rule.{Coming, on_channel, RuledFlow, Lasts, IsSliding, AreRuled}
use Rattle.loss_rule.specs.InOrder.{Comes, AreInChannelOrder, ComeNear, ComeWithin, FallIntoTheWindow, HaveShortOutages, SlideSafely}
use Rattle.loss_rule.specs.Inside.Reached.{IsReached}
use Rattle.loss_rule.specs.Inside.Arrival.{IsUpToDate, ArrivesBy}
use Rattle.loss_rule.specs.Inside.Order.{IsInStep, AreKept, Spares, AreWithin, AreTakenIn}
use Rattle.loss_rule.proofs.Reaching.{reached-sound, fate-stays}
use Rattle.loss_rule.proofs.RuledTurns.{ruled-reached}
use Rattle.loss_rule.proofs.Prompt.{up_to_date-after}
use Rattle.loss_rule.proofs.Passing.{skip-one, skip-lost}
use Rattle.loss_rule.proofs.Arrivals.{slid-looks}
use Rattle.loss_rule.proofs.Sliding.{slid-here}
use Rattle.loss_rule.proofs.ChannelOrder.{comes-here}
use Rattle.loss_rule.proofs.InStep.{between-ahead, stays-spares}
use Rattle.loss_rule.proofs.Falling.{fall-within, no-slide}

-- What lies within the window once the rule has skipped what every channel has passed is taken in:
-- the window doesn't slide.
pub within-taken : (rule : LossRule) (looks : rule ≢ Decided) (flow : RuledFlow) (segments : List Segment) (comings : List Coming) (index_at : ℕ → ℕ)
    → AreNumbered flow.first segments → AreInChannelOrder flow segments comings index_at → AreWithin rule flow comings index_at → AreTakenIn rule flow comings index_at
within-taken rule looks flow segments comings index_at numbered order all_within before behind channel segment so_far events answers lasts noted fates after e are in_step kept t =
    let here = comes-here comings before behind (on_channel channel segment) e in
    let known = up_to_date-after rule flow looks before so_far lasts fates are in
    let r = ruled-reached rule flow before so_far lasts fates are in
    let fits = all_within before behind channel t.x t.y segment so_far t.passing t.passing_answers lasts noted fates t.between e are in_step t.expected t.notes t.passes
    t.leads_passing t.expected_between in
    let stays = no-slide flow segments comings index_at numbered order (length before) channel segment here lasts fates known in_step rule events answers noted after r t
    fits.0 fits.1 in
    let at : t.y ≡ t.z = sym (expected-unique t.between t.z t.y (subst (λ (f : Fates). IsExpected f t.z) stays t.expected_slid) t.expected_between) in
    (fits.0, subst (λ k. index_at (length before) < k + flow.width) at fits.1, stays-spares comings index_at (length before) t.between t.slid stays)

-- One segment that comes near, where the window slides.
module _ (flow : RuledFlow) (some : 1 ≤ flow.width) (segments : List Segment) (comings : List Coming) (index_at : ℕ → ℕ) (numbered : AreNumbered flow.first segments)
    (order : AreInChannelOrder flow segments comings index_at) (n channel : ℕ) (segment : Segment)
    (here : Comes comings n channel segment) (lasts : Lasts) (fates : Fates) (known : IsUpToDate flow lasts fates)
    (in_step : IsInStep flow comings index_at n lasts fates) (events : List FlowEvent) (answers : List Applied) (noted : Lasts) (after : Fates)
    (r : IsReached flow.first flow.width fates) (t : ArrivesBy PassedOrSlid flow lasts fates channel segment events answers noted after)
    (near : index_at n < t.x + 4096) where
  ahead : IsAhead flow.first t.y segment.head.sequence (index_at n)
  ahead = between-ahead flow segments comings index_at numbered order n channel segment here lasts fates known in_step PassedOrSlid events answers noted after r t near

  -- it lies in the window then
  pub slid-within : index_at n < t.z + flow.width
  slid-within =
      elim (slid-here flow some lasts fates channel segment events answers noted after r t) [
        | inl (index, was_ahead, is_ahead, within, free) ↦
            let same : index ≡ index_at n = IsAhead-once flow.first t.y segment.head.sequence index (index_at n) was_ahead ahead in
            subst (λ k. k < t.z + flow.width) same within
        | inr (within, same) ↦
            let at : t.y ≡ t.z = sym (expected-unique t.between t.z t.y (subst (λ (f : Fates). IsExpected f t.z) same t.expected_slid) t.expected_between) in
            subst (λ k. index_at n < k + flow.width) at (within (index_at n) ahead)
      ]

  -- and what the window lost lies its width or more before it, where none of it still comes
  pub slid-spares : ComeWithin comings index_at flow.width → Spares comings index_at n t.between t.slid
  slid-spares late q other another from is lost = by_sliding t.slides
    where
      by_sliding : IsSliding flow t.y segment.head.sequence t.sliding → IsLost t.between (index_at q)
      by_sliding (inr s) =
          stays-spares comings index_at n t.between t.slid (subst (λ e. Leads flow.first flow.width t.between e t.sliding_answers t.slid) s.1 t.leads_sliding).1 q other another
          from is lost
      by_sliding (inl (index, index_ahead, far, are)) =
          let same : index ≡ index_at n = IsAhead-once flow.first t.y segment.head.sequence index (index_at n) index_ahead ahead in
          let end = index + 1 - flow.width in
          let to = index_ahead.to in
          let end_ahead : IsAhead flow.first t.y (number_of flow.first end) end = record { from = omega arith; to = omega arith; numbered = refl } in
          let one = skip-one flow.first flow.width t.y (number_of flow.first end) t.sliding_answers t.between t.slid t.expected_between
          (subst (λ e. Leads flow.first flow.width t.between e t.sliding_answers t.slid) are t.leads_sliding) in
          elim (skip-lost flow.first t.y (number_of flow.first end) end (index_at q) t.between t.slid one.0 one.1 end_ahead lost) [
            | inl before ↦ before
            | inr below ↦ let earlier = late n q channel other segment another here is (omega arith) in absurd (omega arith)
          ]

-- a window that no segment has to leave has a width
some-width : (flow : RuledFlow) (comings : List Coming) (index_at : ℕ → ℕ) (n channel : ℕ) (segment : Segment) → ComeWithin comings index_at flow.width
    → Comes comings n channel segment → 1 ≤ flow.width
some-width flow comings index_at n channel segment late here =
    elim (cases_lt flow.width 1) [
      | inl none ↦ let wrong = late n n channel channel segment segment here here (omega arith) in absurd (omega arith)
      | inr some ↦ some
    ]

module _ (flow : RuledFlow) (segments : List Segment) (comings : List Coming) (index_at : ℕ → ℕ) (numbered : AreNumbered flow.first segments)
    (order : AreInChannelOrder flow segments comings index_at) where
  -- so all near is taken in, where none comes after one greater by the window's width or more
  late-taken : ComeWithin comings index_at flow.width
      → ((before behind : List Coming) (channel x : ℕ) (segment : Segment) (so_far : List FlowEvent) (lasts : Lasts) (fates : Fates)
      → comings ≡ before ++ on_channel channel segment ∷ behind → AreRuled PassedOrSlid flow before so_far lasts fates
      → AreKept comings index_at (length before) fates → IsExpected fates x → index_at (length before) < x + 4096)
      → AreTakenIn PassedOrSlid flow comings index_at
  late-taken late all_near before behind channel segment so_far events answers lasts noted fates after e are in_step kept t =
      let n = length before in
      let here = comes-here comings before behind (on_channel channel segment) e in
      let known = up_to_date-after PassedOrSlid flow slid-looks before so_far lasts fates are in
      let r = ruled-reached PassedOrSlid flow before so_far lasts fates are in
      let some = some-width flow comings index_at n channel segment late here in
      let near = all_near before behind channel t.x segment so_far lasts fates e are kept t.expected in (
        near,
        slid-within flow some segments comings index_at numbered order n channel segment here lasts fates known in_step events answers noted after r t near,
        slid-spares flow some segments comings index_at numbered order n channel segment here lasts fates known in_step events answers noted after r t near late,
      )

  near-taken : ComeWithin comings index_at flow.width → ComeNear PassedOrSlid flow comings index_at → AreTakenIn PassedOrSlid flow comings index_at
  near-taken late near =
      late-taken late (λ before behind channel x segment so_far lasts fates e are kept expected. (near before behind channel x segment so_far lasts fates e are expected).1)

  -- and what comes after short outages is near: that which came before lies within the window
  pub outage-taken : ComeWithin comings index_at flow.width → HaveShortOutages flow comings index_at → AreTakenIn PassedOrSlid flow comings index_at
  outage-taken late short =
      late-taken late (λ before behind channel x segment so_far lasts fates e are kept expected.
      (let here = comes-here comings before behind (on_channel channel segment) e in
      let r = ruled-reached PassedOrSlid flow before so_far lasts fates are in
      elim (short (length before) channel segment here) [
        | inl low ↦ omega arith
        | inr (q, other, last, earlier, comes, close) ↦
            let within = (reached-sound flow.first flow.width fates x r expected).kept_within (index_at q) (last, kept q other last earlier comes) in
            omega arith
      ]))

  -- So it is where slides are safe.
  pub safe-taken : 1 ≤ flow.width → ComeNear PassedOrSlid flow comings index_at → SlideSafely flow comings index_at → AreTakenIn PassedOrSlid flow comings index_at
  safe-taken some near safe before behind channel segment so_far events answers lasts noted fates after e are in_step kept t =
      let n = length before in
      let here = comes-here comings before behind (on_channel channel segment) e in
      let known = up_to_date-after PassedOrSlid flow slid-looks before so_far lasts fates are in
      let r = ruled-reached PassedOrSlid flow before so_far lasts fates are in
      let close = (near before behind channel t.x segment so_far lasts fates e are t.expected).1 in
      let skips = t.passing ++ t.sliding in
      let led = leads-in_turn flow.first flow.width t.passing t.sliding (t.passing_answers ++ t.sliding_answers) fates t.slid
      (t.passing_answers, t.sliding_answers, t.between, t.leads_passing, t.leads_sliding, refl) in (
        close,
        slid-within flow some segments comings index_at numbered order n channel segment here lasts fates known in_step events answers noted after r t close,
        λ q other another from is lost. fate-stays flow.first flow.width (index_at q) None t.passing t.passing_answers fates t.between r t.leads_passing
            (safe before behind channel other q t.x segment another so_far skips (t.passing_answers ++ t.sliding_answers) lasts noted fates t.slid e are t.expected t.notes
            (t.x, t.y, t.passing, t.sliding, t.passing_answers, t.between, t.expected, t.passes, t.leads_passing, t.expected_between, t.slides, refl) led from is lost),
      )

-- What falls into the window is taken in, by each rule.
pub falls-taken : (rule : LossRule) (looks : rule ≢ Decided) (flow : RuledFlow) (narrow : flow.width ≤ 4096) (segments : List Segment) (comings : List Coming)
    (index_at : ℕ → ℕ) → AreNumbered flow.first segments → AreInChannelOrder flow segments comings index_at → FallIntoTheWindow rule flow comings index_at
    → AreTakenIn rule flow comings index_at
falls-taken Decided looks flow narrow segments comings index_at numbered order fall = absurd (looks refl)
falls-taken Passed looks flow narrow segments comings index_at numbered order fall =
    within-taken Passed looks flow segments comings index_at numbered order (fall-within Passed looks flow narrow segments comings index_at numbered order fall)
falls-taken PassedOrSlid looks flow narrow segments comings index_at numbered order fall =
    near-taken flow segments comings index_at numbered order fall.1 fall.0
