-- Where what comes in channel order comes near, its events are near.
use Rattle.std.proofs.Common.{◌≡◌, ◌≢◌, ℕ, ◌+◌, ◌<◌, ◌≤◌, inl, inr, List, [], ◌∷◌, ◌++◌, length, refl, ap, sym, subst, ◌∙◌, arith, append_assoc, append-nil}
use Rattle.std.proofs.lemmas.Bool.{cases_lt}
use Rattle.docsis_wire.specs.declared.segment.Segment.{Segment}
use Rattle.flow_core.specs.declared.event.Applied.{Applied}
use Rattle.flow_core.specs.Fates.{Fates, no_fates, number_of, IsExpected, IsOpen}
use Rattle.flow_core.specs.Events.{FlowEvent, arrives, Leads, IsAfter}
use Rattle.flow_core.specs.Near.{AreNear}
use Rattle.flow_core.specs.Closing.{HaveNoArrival}
use Rattle.flow_core.proofs.Nearness.{AreNumbered}
use Rattle.flow_core.proofs.Outcome.{expected-unique, open_and_settled}
use Rattle.flow_core.proofs.OneFates.{after-once}
use Rattle.flow_core.proofs.Turns.{leads-in_turn, near-behind}
use Rattle.loss_rule.specs.declared.rule.LossRule.{LossRule}
use Rattle.loss_rule.specs.declared.rule.LossRule.TheVariants.{Decided, Passed, PassedOrSlid}
use Rattle.loss_rule.specs.Rule.{Coming, on_channel, handed_in, RuledFlow, HasChannel, Lasts, IsRuled, AreRuled}
use Rattle.loss_rule.specs.InOrder.{Comes, AreInChannelOrder, ComeNear, HandInDecisions}
use Rattle.loss_rule.specs.Inside.Reached.{IsReached}
use Rattle.loss_rule.specs.Inside.Arrival.{IsUpToDate, Slides, ArrivesBy}
use Rattle.loss_rule.proofs.Reaching.{reached-sound, expected-onward}
use Rattle.loss_rule.proofs.RuledTurns.{ruled-reached, holds-after}
use Rattle.loss_rule.proofs.Noting.{own-ahead, noted-bounded}
use Rattle.loss_rule.proofs.Passing.{skip-leaves, passing-skips}
use Rattle.loss_rule.proofs.Arrivals.{passed-looks, slid-looks, arrival-by}
use Rattle.loss_rule.proofs.ArrivalAnswers.{none-no_arrival}
use Rattle.loss_rule.proofs.Prompt.{between-reached, up_to_date-after}
use Rattle.loss_rule.proofs.ChannelOrder.{near-index, comes-here, number-at}
use Rattle.loss_rule.proofs.HandedIn.{one-no_arrival, decides}
use Rattle.loss_rule.proofs.Sliding.{beyond-open, slid-to}
use Rattle.loss_rule.proofs.NearArrivals.{near-one_more, near-arrival}

-- A segment of the flow that comes near the expected index is still near once the rule has skipped.
module _ (rule : LossRule) (flow : RuledFlow) (positive : 1 ≤ flow.width) (narrow : flow.width ≤ 4096) (lasts : Lasts) (fates : Fates) (channel : ℕ) (segment : Segment)
    (events : List FlowEvent) (answers : List Applied) (noted : Lasts) (after : Fates) (r : IsReached flow.first flow.width fates)
    (t : ArrivesBy rule flow lasts fates channel segment events answers noted after) (known : IsUpToDate flow lasts fates) (has : HasChannel flow channel)
    (k : ℕ) (numbered : segment.head.sequence ≡ number_of flow.first k) (from : t.x ≤ k + 4096) (to : k < t.x + 4096) where
  -- once it has skipped what passed
  passed-from : t.y ≤ k + 4096
  passed-from =
      elim (cases_lt (k + 4096) t.y) [
        | inr up_to ↦ up_to
        | inl past ↦
            elim (passing-skips flow noted t.x fates t.between t.passing t.passing_answers t.expected
            (noted-bounded flow.first t.x channel segment.head.sequence lasts noted t.notes (known.bounded t.x t.expected)) t.passes t.leads_passing) [
              | inr (none, same) ↦
                  let at = expected-unique t.between t.x t.y (subst (λ (f : Fates). IsExpected f t.x) (sym same) t.expected) t.expected_between in
                  absurd (omega arith)
              | inl (least, is, ahead, any, skips) ↦
                  let last = is.each channel has in
                  let own = own-ahead flow.first t.x channel segment.head.sequence lasts noted t.notes last.0 last.1 in
                  let same = near-index flow.first t.x segment.head.sequence last.0 k own numbered from to in
                  let low = own.from in
                  let below = last.2 in
                  let free : IsOpen t.between (k + 4096) =
                  skip-leaves flow.first t.x (number_of flow.first least) least (k + 4096) fates t.between any skips ahead (omega arith)
                  ∙ beyond-open flow.width fates t.x (k + 4096) (reached-sound flow.first flow.width fates t.x r t.expected) (omega arith) in
                  absurd (open_and_settled t.between (k + 4096) free (t.expected_between.settled (k + 4096) past))
            ]
      ]

  -- the expected index doesn't go back
  onward : t.x ≤ t.y
  onward = expected-onward flow.first flow.width t.x t.y t.passing t.passing_answers fates t.between r t.expected t.leads_passing t.expected_between

  -- and can be come to
  between-r : IsReached flow.first flow.width t.between
  between-r = between-reached rule flow lasts fates channel segment events answers noted after r t

  -- nor by sliding
  onward-slid : t.y ≤ t.z
  onward-slid = expected-onward flow.first flow.width t.y t.z t.sliding t.sliding_answers t.between t.slid between-r t.expected_between t.leads_sliding t.expected_slid

  -- so the segment lies less than 4096 after it
  pub slid-near : k < t.z + 4096
  slid-near =
      let one = onward in
      let two = onward-slid in
      omega arith

  -- and once the window has slid
  pub slid-from : t.z ≤ k + 4096
  slid-from = go rule t.slides
    where
      unmoved : t.slid ≡ t.between → t.z ≤ k + 4096
      unmoved same =
          let at : t.z ≡ t.y = expected-unique t.between t.z t.y (subst (λ (f : Fates). IsExpected f t.z) same t.expected_slid) t.expected_between in
          let low = passed-from in
          omega arith

      go : (by : LossRule) → Slides by flow t.y segment.head.sequence t.sliding → t.z ≤ k + 4096
      go Decided slides = absurd slides
      go Passed slides = unmoved (subst (λ s. Leads flow.first flow.width t.between s t.sliding_answers t.slid) slides t.leads_sliding).1
      go PassedOrSlid slides =
          elim (slid-to flow positive segment.head.sequence t.y t.z t.between t.slid t.sliding t.sliding_answers between-r t.expected_between t.expected_slid slides t.leads_sliding) [
            | inr (within, same) ↦ unmoved same
            | inl (index, was_ahead, is_ahead, near, free) ↦
                let low = passed-from in
                let one = onward in
                let same = near-index flow.first t.y segment.head.sequence index k was_ahead numbered low (omega arith) in
                let up_to = is_ahead.from in
                omega arith
          ]

module _ (rule : LossRule) (flow : RuledFlow) (positive : 1 ≤ flow.width) (narrow : flow.width ≤ 4096) (segments : List Segment) (comings : List Coming) (index_at : ℕ → ℕ)
    (numbered : AreNumbered flow.first segments) (order : AreInChannelOrder flow segments comings index_at) (near : ComeNear rule flow comings index_at)
    (decisions : HandInDecisions comings) where
  abbrev AreNearSoFar : List Coming → List Coming → List FlowEvent → Lasts → Fates → Type 0
  AreNearSoFar past behind events lasts fates =
      (later : List Coming) → comings ≡ past ++ (behind ++ later)
      → (answers : List Applied) × IsAfter flow.first flow.width events answers fates × AreNear flow.first flow.width segments events

  -- a segment that comes, where nothing is skipped
  decided-near : (n channel x : ℕ) (segment : Segment) (before events : List FlowEvent) (so_far : List Applied) (fates : Fates) → Comes comings n channel segment
      → events ≡ arrives segment ∷ [] → IsExpected fates x → x ≤ index_at n + 4096 → index_at n < x + 4096 → IsAfter flow.first flow.width before so_far fates
      → AreNear flow.first flow.width segments before → AreNear flow.first flow.width segments (before ++ events)
  decided-near n channel x segment before events so_far fates here are expected from to is near_before =
      subst (λ e. AreNear flow.first flow.width segments (before ++ e)) (sym are)
      (near-one_more flow.first flow.width segments before segment near_before (λ others reached y is' expected'. (
      let there : reached ≡ fates = (after-once flow.first flow.width before others so_far reached fates is' is).1 in
      let at : y ≡ x = expected-unique fates y x (subst (λ (f : Fates). IsExpected f y) there expected') expected in
      record {
        index = index_at n;
        of_cut = order.of_cut n channel segment here;
        from = subst (λ j. j ≤ index_at n + 4096) (sym at) from;
        to = subst (λ j. index_at n < j + 4096) (sym at) to;
      })))

  -- and where the rule looks at what passed
  looking-near : (by : LossRule) → by ≢ Decided → ComeNear by flow comings index_at → (past behind : List Coming) (before : List FlowEvent) (lasts : Lasts) (fates : Fates)
      (channel : ℕ) (segment : Segment) (events : List FlowEvent) (answers so_far : List Applied) (noted : Lasts) (after : Fates)
      → comings ≡ past ++ on_channel channel segment ∷ behind → AreRuled by flow past before lasts fates
      → IsRuled by flow lasts fates (on_channel channel segment) events noted → Leads flow.first flow.width fates events answers after
      → IsAfter flow.first flow.width before so_far fates → AreNear flow.first flow.width segments before → AreNear flow.first flow.width segments (before ++ events)
  looking-near by looks close past behind before lasts fates channel segment events answers so_far noted after e are ruled leads is near_before =
      let r = ruled-reached by flow past before lasts fates are in
      let t = arrival-by by flow lasts fates channel segment events answers noted after looks r ruled leads in
      let known = up_to_date-after by flow looks past before lasts fates are in
      let here = comes-here comings past behind (on_channel channel segment) e in
      let c = close past behind channel t.x segment before lasts fates e are t.expected in
      let has = order.on_flow (length past) channel segment here in
      let number = number-at flow segments comings index_at numbered order (length past) channel segment here in
      let k = index_at (length past) in
      near-arrival by flow lasts fates channel segment events answers noted after t segments k before so_far (order.of_cut (length past) channel segment here)
      (slid-from by flow positive narrow lasts fates channel segment events answers noted after r t known has k number c.0 c.1)
      (slid-near by flow positive narrow lasts fates channel segment events answers noted after r t known has k number c.0 c.1) is near_before

  -- so by each rule
  near-step : (by : LossRule) → ComeNear by flow comings index_at → (past behind : List Coming) (before : List FlowEvent) (lasts : Lasts) (fates : Fates)
      (channel : ℕ) (segment : Segment) (events : List FlowEvent) (answers so_far : List Applied) (noted : Lasts) (after : Fates)
      → comings ≡ past ++ on_channel channel segment ∷ behind → AreRuled by flow past before lasts fates
      → IsRuled by flow lasts fates (on_channel channel segment) events noted → Leads flow.first flow.width fates events answers after
      → IsAfter flow.first flow.width before so_far fates → AreNear flow.first flow.width segments before → AreNear flow.first flow.width segments (before ++ events)
  near-step Passed close = looking-near Passed passed-looks close
  near-step PassedOrSlid close = looking-near PassedOrSlid slid-looks close
  near-step Decided close = λ past behind before lasts fates channel segment events answers so_far noted after e are ruled leads is near_before. (
      let c = close past behind channel ruled.0 segment before lasts fates e are ruled.2 in
      decided-near (length past) channel ruled.0 segment before events so_far fates (comes-here comings past behind (on_channel channel segment) e)
      (ruled.5 ∙ ap (λ s. s ++ arrives segment ∷ []) ruled.4) ruled.2 c.0 c.1 is near_before)

  -- one coming more
  nearness-step : (past behind : List Coming) (before : List FlowEvent) (lasts : Lasts) (fates : Fates) (coming : Coming) (events : List FlowEvent) (answers : List Applied)
      (noted : Lasts) (after : Fates) → AreRuled rule flow past before lasts fates → AreNearSoFar past (coming ∷ behind) before lasts fates
      → IsRuled rule flow lasts fates coming events noted → Leads flow.first flow.width fates events answers after
      → AreNearSoFar (past ++ coming ∷ []) behind (before ++ events) noted after
  nearness-step past behind before lasts fates (handed_in event) events answers noted after are near_before ruled leads later e =
      let e' : comings ≡ past ++ handed_in event ∷ (behind ++ later) = e ∙ append_assoc past (handed_in event ∷ []) (behind ++ later) in
      let held = near_before later e' in
      let no_arrival : HaveNoArrival (event ∷ []) = one-no_arrival event (decides comings past (behind ++ later) event decisions e') in (
        held.0 ++ answers,
        leads-in_turn flow.first flow.width before events (held.0 ++ answers) no_fates after (held.0, answers, fates, held.1, leads, refl),
        near-behind flow.first flow.width segments before events held.2 (subst HaveNoArrival (sym ruled.0) no_arrival),
      )
  nearness-step past behind before lasts fates (on_channel channel segment) events answers noted after are near_before ruled leads later e =
      let e' : comings ≡ past ++ on_channel channel segment ∷ (behind ++ later) = e ∙ append_assoc past (on_channel channel segment ∷ []) (behind ++ later) in
      let held = near_before later e' in (
        held.0 ++ answers,
        leads-in_turn flow.first flow.width before events (held.0 ++ answers) no_fates after (held.0, answers, fates, held.1, leads, refl),
        near-step rule near past (behind ++ later) before lasts fates channel segment events answers held.0 noted after e' are ruled leads held.1 held.2,
      )

  -- so all events are near
  pub near-events : (events : List FlowEvent) (lasts : Lasts) (fates : Fates) → AreRuled rule flow comings events lasts fates → AreNear flow.first flow.width segments events
  near-events events lasts fates are =
      (holds-after rule flow AreNearSoFar nearness-step comings events lasts fates
      (λ later e. ([], (refl, refl), λ before after segment answers reached x wrong. absurd (none-no_arrival before after segment wrong))) are [] (sym (append-nil comings))).2
