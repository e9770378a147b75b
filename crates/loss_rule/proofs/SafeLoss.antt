-- In a near list in channel order the rule loses nothing that still comes.
use Rattle.std.proofs.Common.{◌≡◌, ℕ, ◌+◌, ◌≤◌, inl, inr, Option, List, [], ◌∷◌, ◌++◌, length, refl, sym, subst, ◌∙◌, arith, append_assoc, append-nil}
use Rattle.std.specs.Ordering.{nat_cmp}
use Rattle.std.specs.FinMap as map
use Rattle.docsis_wire.specs.declared.segment.Segment.{Segment}
use Rattle.reorder.specs.declared.verdict.Verdict.TheVariants.{Beyond, Kept}
use Rattle.flow_core.specs.declared.event.Applied.{Applied}
use Rattle.flow_core.specs.declared.event.Applied.TheVariants.{Arrival}
use Rattle.flow_core.specs.Fates.{Fates, no_fates, IsExpected, IsLost}
use Rattle.flow_core.specs.Events.{FlowEvent, Leads, IsAfter}
use Rattle.flow_core.specs.Closing.{HaveNoArrival}
use Rattle.flow_core.proofs.Nearness.{AreNumbered}
use Rattle.flow_core.proofs.Outcome.{expected-unique}
use Rattle.flow_core.proofs.OneFates.{after-once}
use Rattle.flow_core.proofs.Turns.{leads-in_turn}
use Rattle.loss_rule.specs.declared.rule.LossRule.TheVariants.{Passed}
use Rattle.loss_rule.specs.Rule.{Coming, on_channel, handed_in, RuledFlow, Lasts, no_lasts, IsPassing, Notes, AreSkips, IsRuled, AreRuled}
use Rattle.loss_rule.specs.InOrder.{Comes, AreInChannelOrder, ComeNear, DecideSafely}
use Rattle.loss_rule.specs.Inside.Order.{IsInStep}
use Rattle.loss_rule.specs.Inside.Verdicts.{EachVerdict, SaysKeptOrBeyond}
use Rattle.loss_rule.proofs.Noting.{noted-bounded}
use Rattle.loss_rule.proofs.Passing.{passing-lost}
use Rattle.loss_rule.proofs.RuledTurns.{ruled-reached, holds-after}
use Rattle.loss_rule.proofs.Arrivals.{passed-looks, by-passed}
use Rattle.loss_rule.proofs.ArrivalAnswers.{answer-last, no_arrival-verdicts, verdicts-in_turn}
use Rattle.loss_rule.proofs.Prompt.{no_lasts-none, up_to_date-after}
use Rattle.loss_rule.proofs.ChannelOrder.{comes-here, one-longer, passed-gone, noted-of, of_comings-after}
use Rattle.loss_rule.proofs.InStep.{own-answer, in_step-after, stays-spares}
use Rattle.loss_rule.proofs.HandedIn.{decided-no_arrival, in_step-decided}

-- nothing came yet
pub in_step-none : (flow : RuledFlow) (comings : List Coming) (index_at : ℕ → ℕ) → IsInStep flow comings index_at 0 (no_lasts flow) no_fates
in_step-none flow comings index_at = record {
  of_comings = λ channel index is. absurd (no_lasts-none flow channel index is);
  latest = λ p channel segment before. absurd (omega arith);
  came = λ i kept. (let free = map.get-empty {X = Option Segment} nat_cmp i in let is = kept.1 in absurd cc);
  gone = λ q channel segment from is lost. (let free = map.get-empty {X = Option Segment} nat_cmp (index_at q) in absurd cc);
}

module _ (flow : RuledFlow) (segments : List Segment) (comings : List Coming) (index_at : ℕ → ℕ) (numbered : AreNumbered flow.first segments)
    (order : AreInChannelOrder flow segments comings index_at) (near : ComeNear Passed flow comings index_at) where
  -- what the skips before a segment lose is the index of none that still comes
  pub skips-safe : (past behind : List Coming) (channel other q x : ℕ) (segment another : Segment) (events skips : List FlowEvent) (answers : List Applied)
      (lasts noted : Lasts) (fates after : Fates) → comings ≡ past ++ on_channel channel segment ∷ behind → AreRuled Passed flow past events lasts fates
      → IsExpected fates x → Notes flow.first x channel segment.head.sequence lasts noted → AreSkips Passed flow noted fates segment.head.sequence skips
      → Leads flow.first flow.width fates skips answers after → length past ≤ q → Comes comings q other another → IsLost after (index_at q) → IsLost fates (index_at q)
  skips-safe past behind channel other q x segment another events skips answers lasts noted fates after e are expected notes (x', expected', passes) leads from is lost =
      let known = up_to_date-after Passed flow passed-looks past events lasts fates are in
      let bounded = noted-bounded flow.first x channel segment.head.sequence lasts noted notes (known.bounded x expected) in
      let passes_here = subst (λ k. IsPassing flow noted k skips) (expected-unique fates x' x expected' expected) passes in
      let close = near past behind channel x segment events lasts fates e are expected in
      let of_comings = of_comings-after flow segments comings index_at numbered order Passed near past (on_channel channel segment ∷ behind) events lasts fates e are in
      let still = noted-of flow segments comings index_at numbered order (length past) x channel segment lasts noted (comes-here comings past behind (on_channel channel segment) e)
      of_comings notes close.0 close.1 in
      elim (passing-lost flow noted x fates after skips answers expected bounded passes_here leads (index_at q) lost) [
        | inl before ↦ before
        | inr passed ↦
            absurd (passed-gone flow segments comings index_at numbered order (length past + 1) (index_at q) q other another noted still passed (omega arith) is refl)
      ]

  -- where decisions are safe, each segment is kept or lies beyond the window
  module _ (safely : DecideSafely Passed flow comings index_at) where
    abbrev IsSafeSoFar : List Coming → List Coming → List FlowEvent → Lasts → Fates → Type 0
    IsSafeSoFar past behind events lasts fates =
        (later : List Coming) → comings ≡ past ++ (behind ++ later)
        → IsInStep flow comings index_at (length past) lasts fates
        × ((answers : List Applied) × IsAfter flow.first flow.width events answers fates × EachVerdict SaysKeptOrBeyond answers)

    -- one coming more
    safe-step : (past behind : List Coming) (before : List FlowEvent) (lasts : Lasts) (fates : Fates) (coming : Coming) (events : List FlowEvent) (answers : List Applied)
        (noted : Lasts) (after : Fates) → AreRuled Passed flow past before lasts fates → IsSafeSoFar past (coming ∷ behind) before lasts fates
        → IsRuled Passed flow lasts fates coming events noted → Leads flow.first flow.width fates events answers after
        → IsSafeSoFar (past ++ coming ∷ []) behind (before ++ events) noted after
    safe-step past behind before lasts fates (handed_in event) events answers noted after are safe ruled leads later e =
        let e' : comings ≡ past ++ handed_in event ∷ (behind ++ later) = e ∙ append_assoc past (handed_in event ∷ []) (behind ++ later) in
        let so_far = safe later e' in
        let alone : Leads flow.first flow.width fates (event ∷ []) answers after = subst (λ v. Leads flow.first flow.width fates v answers after) ruled.0 leads in
        let none : HaveNoArrival events = subst HaveNoArrival (sym ruled.0)
        (decided-no_arrival Passed flow comings index_at safely past (behind ++ later) before lasts fates event answers after e' are alone) in (
          subst (λ n. IsInStep flow comings index_at n noted after) (sym (one-longer past (handed_in event)))
              (subst (λ l. IsInStep flow comings index_at (length past + 1) l after) (sym ruled.1)
              (in_step-decided Passed flow comings index_at safely past (behind ++ later) before lasts fates event answers after e' are alone so_far.0)),
          (
            so_far.1.0 ++ answers,
            leads-in_turn flow.first flow.width before events (so_far.1.0 ++ answers) no_fates after (so_far.1.0, answers, fates, so_far.1.1, leads, refl),
            verdicts-in_turn SaysKeptOrBeyond so_far.1.0 answers so_far.1.2
                (no_arrival-verdicts SaysKeptOrBeyond flow.first flow.width events answers fates after none leads),
          ),
        )
    safe-step past behind before lasts fates (on_channel channel segment) events answers noted after are safe ruled leads later e =
        let e' : comings ≡ past ++ on_channel channel segment ∷ (behind ++ later) = e ∙ append_assoc past (on_channel channel segment ∷ []) (behind ++ later) in
        let here = comes-here comings past (behind ++ later) (on_channel channel segment) e' in
        let r = ruled-reached Passed flow past before lasts fates are in
        let t = by-passed flow lasts fates channel segment events answers noted after r leads ruled in
        let known = up_to_date-after Passed flow passed-looks past before lasts fates are in
        let close = near past (behind ++ later) channel t.x segment before lasts fates e' are t.expected in
        let so_far = safe later e' in
        let none : Leads flow.first flow.width t.between [] t.sliding_answers t.slid =
        subst (λ s. Leads flow.first flow.width t.between s t.sliding_answers t.slid) t.slides t.leads_sliding in
        let spares = stays-spares comings index_at (length past) t.between t.slid none.1 in
        let own = own-answer flow segments comings index_at numbered order (length past) channel segment here lasts fates known so_far.0 Passed events answers noted after r t close.1 spares in
        let verdict : EachVerdict SaysKeptOrBeyond answers = λ k verdict is. (
        let last = answer-last Passed flow lasts fates channel segment events answers noted after t k verdict is in
        elim own [
          | inl (kept, _, _) ↦ (let same : Arrival verdict ≡ Arrival Kept = sym last ∙ kept in inl cc)
          | inr (beyond, _, _) ↦ (let same : Arrival verdict ≡ Arrival (Beyond segment) = sym last ∙ beyond in inr (segment, cc))
        ]) in (
          subst (λ n. IsInStep flow comings index_at n noted after) (sym (one-longer past (on_channel channel segment)))
              (in_step-after flow segments comings index_at numbered order (length past) channel segment here lasts fates known so_far.0 Passed events answers noted after r t close.1 spares),
          (
            so_far.1.0 ++ answers,
            leads-in_turn flow.first flow.width before events (so_far.1.0 ++ answers) no_fates after (so_far.1.0, answers, fates, so_far.1.1, leads, refl),
            verdicts-in_turn SaysKeptOrBeyond so_far.1.0 answers so_far.1.2 verdict,
          ),
        )

    -- so say all answers
    pub verdicts-safe : (events : List FlowEvent) (answers : List Applied) (lasts : Lasts) (fates : Fates) → AreRuled Passed flow comings events lasts fates
        → IsAfter flow.first flow.width events answers fates → EachVerdict SaysKeptOrBeyond answers
    verdicts-safe events answers lasts fates are is =
        let found = holds-after Passed flow IsSafeSoFar safe-step comings events lasts fates
        (λ later e. (in_step-none flow comings index_at, ([], (refl, refl), λ k verdict e'. absurd cc))) are [] (sym (append-nil comings)) in
        subst (EachVerdict SaysKeptOrBeyond) (after-once flow.first flow.width events found.1.0 answers fates fates found.1.1 is).0 found.1.2
