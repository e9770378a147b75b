-- Where each segment is taken in and decisions are safe, each segment that comes is kept.
use Rattle.std.proofs.Common.{◌≡◌, ◌≢◌, ℕ, ◌+◌, ◌<◌, ◌≤◌, inl, inr, Some, None, List, [], ◌∷◌, ◌++◌, length, refl, ap, sym, subst, ◌∙◌, arith, append_assoc, append-nil}
use Rattle.std.proofs.lemmas.Bool.{cases_eq}
use Rattle.std.proofs.lemmas.Option.{slice_get_within}
use Rattle.std.specs.FinMap as map
use Rattle.docsis_wire.specs.declared.segment.Segment.{Segment}
use Rattle.reorder.specs.declared.verdict.Verdict.TheVariants.{Kept}
use Rattle.reorder.proofs.Items.{get-insert_same}
use Rattle.flow_core.specs.declared.event.Applied.{Applied}
use Rattle.flow_core.specs.declared.event.Applied.TheVariants.{Arrival}
use Rattle.flow_core.specs.Fates.{Fates, no_fates, IsKept, IsKeptAs, IsLost, IsExpected}
use Rattle.flow_core.specs.Events.{FlowEvent, arrives, Leads, IsAfter}
use Rattle.flow_core.specs.Near.{AreNear}
use Rattle.flow_core.specs.Closing.{HaveNoArrival}
use Rattle.flow_core.proofs.Nearness.{AreNumbered}
use Rattle.flow_core.proofs.Outcome.{expected-unique}
use Rattle.flow_core.proofs.OneFates.{after-once}
use Rattle.flow_core.proofs.Turns.{leads-in_turn, near-behind}
use Rattle.loss_rule.specs.declared.rule.LossRule.{LossRule}
use Rattle.loss_rule.specs.declared.rule.LossRule.TheVariants.{Decided}
use Rattle.loss_rule.specs.Rule.{Coming, on_channel, handed_in, RuledFlow, Lasts, IsLastOn, Notes, AreSkips, IsRuled, AreRuled}
use Rattle.loss_rule.specs.InOrder.{Comes, AreInChannelOrder, ComeNear, DecideSafely}
use Rattle.loss_rule.specs.Inside.Reached.{IsReached}
use Rattle.loss_rule.specs.Inside.Arrival.{IsUpToDate, ArrivesBy}
use Rattle.loss_rule.specs.Inside.Order.{IsInStep, AreKept, Spares, AreTakenIn}
use Rattle.loss_rule.specs.Inside.Verdicts.{EachVerdict, SaysKept}
use Rattle.loss_rule.proofs.Reaching.{reached-leads, leads-some, fate-stays}
use Rattle.loss_rule.proofs.RuledTurns.{ruled-reached, ruled-append, holds-after}
use Rattle.loss_rule.proofs.Arrivals.{arrival-by}
use Rattle.loss_rule.proofs.ArrivalAnswers.{answer-last, no_arrival-verdicts, verdicts-in_turn}
use Rattle.loss_rule.proofs.Prompt.{up_to_date-after}
use Rattle.loss_rule.proofs.ChannelOrder.{comes-once, comes-here, one-longer}
use Rattle.loss_rule.proofs.InStep.{index-from, slid-ahead, own-answer, in_step-after}
use Rattle.loss_rule.proofs.HandedIn.{decided-no_arrival, came-earlier, in_step-decided}
use Rattle.loss_rule.proofs.Rulings.{ruled-some}
use Rattle.loss_rule.proofs.SafeLoss.{in_step-none}
use Rattle.loss_rule.proofs.NearArrivals.{near-arrival}

module _ (rule : LossRule) (looks : rule ≢ Decided) (flow : RuledFlow) (segments : List Segment) (comings : List Coming) (index_at : ℕ → ℕ)
    (numbered : AreNumbered flow.first segments) (order : AreInChannelOrder flow segments comings index_at) where
  -- one segment
  module _ (n channel : ℕ) (segment : Segment) (here : Comes comings n channel segment) (lasts : Lasts) (fates : Fates) (known : IsUpToDate flow lasts fates)
      (in_step : IsInStep flow comings index_at n lasts fates) (events : List FlowEvent) (answers : List Applied) (noted : Lasts) (after : Fates)
      (r : IsReached flow.first flow.width fates) (leads : Leads flow.first flow.width fates events answers after)
      (t : ArrivesBy rule flow lasts fates channel segment events answers noted after) (near : index_at n < t.x + 4096)
      (within : index_at n < t.z + flow.width) (spares : Spares comings index_at n t.between t.slid) where
    -- it is kept
    own-kept : (t.answer ≡ Arrival Kept) × (after ≡ map.insert t.slid (index_at n) (Some segment))
    own-kept =
        elim (own-answer flow segments comings index_at numbered order n channel segment here lasts fates known in_step rule events answers noted after r t near spares) [
          | inl (kept, _, is) ↦ (kept, is)
          | inr (_, far, _) ↦ absurd (omega arith)
        ]

    -- what held of those before it holds with it
    still-in_step : IsInStep flow comings index_at (n + 1) noted after
    still-in_step = in_step-after flow segments comings index_at numbered order n channel segment here lasts fates known in_step rule events answers noted after r t near spares

    -- all are kept, with it
    still-kept : AreKept comings index_at n fates → AreKept comings index_at (n + 1) after
    still-kept kept p other another before is =
        elim (cases_eq p n) [
          | inl same ↦
              let one = comes-once comings n other channel another segment (subst (λ k. Comes comings k other another) same is) here in
              ap (λ (f : Fates). map.get f (index_at p)) own-kept.1
              ∙ ap (λ k. map.get (map.insert t.slid (index_at n) (Some segment)) (index_at k)) same
              ∙ get-insert_same t.slid (index_at n) (Some segment) ∙ ap (λ s. Some (Some s)) (sym one.1)
          | inr differ ↦ fate-stays flow.first flow.width (index_at p) (Some another) events answers fates after r leads (kept p other another (omega arith) is)
        ]

    -- and so says the only answer to it that is an arrival's
    own-verdict : EachVerdict SaysKept answers
    own-verdict k verdict is =
        let same : Arrival verdict ≡ Arrival Kept = sym (answer-last rule flow lasts fates channel segment events answers noted after t k verdict is) ∙ own-kept.0 in
        cc

    -- and comes near
    own-near : (before : List FlowEvent) (so_far : List Applied) → IsAfter flow.first flow.width before so_far fates → AreNear flow.first flow.width segments before
        → AreNear flow.first flow.width segments (before ++ events)
    own-near before so_far is near_before =
        let ahead = slid-ahead flow segments comings index_at numbered order n channel segment here lasts fates known in_step rule events answers noted after r t near spares in
        let from = ahead.from in
        let to = ahead.to in
        near-arrival rule flow lasts fates channel segment events answers noted after t segments (index_at n) before so_far (order.of_cut n channel segment here)
        (omega arith) (omega arith) is near_before

  -- and all, where each is taken in
  module _ (taken : AreTakenIn rule flow comings index_at) (safely : DecideSafely rule flow comings index_at) where
    abbrev AreAllKept : List Coming → List Coming → List FlowEvent → Lasts → Fates → Type 0
    AreAllKept past behind events lasts fates =
        (later : List Coming) → comings ≡ past ++ (behind ++ later)
        → IsInStep flow comings index_at (length past) lasts fates × AreKept comings index_at (length past) fates
        × ((answers : List Applied) × IsAfter flow.first flow.width events answers fates × EachVerdict SaysKept answers)
        × AreNear flow.first flow.width segments events

    -- one coming more
    kept-step : (past behind : List Coming) (before : List FlowEvent) (lasts : Lasts) (fates : Fates) (coming : Coming) (events : List FlowEvent) (answers : List Applied)
        (noted : Lasts) (after : Fates) → AreRuled rule flow past before lasts fates → AreAllKept past (coming ∷ behind) before lasts fates
        → IsRuled rule flow lasts fates coming events noted → Leads flow.first flow.width fates events answers after
        → AreAllKept (past ++ coming ∷ []) behind (before ++ events) noted after
    kept-step past behind before lasts fates (handed_in event) events answers noted after are so_far ruled leads later e =
        let e' : comings ≡ past ++ handed_in event ∷ (behind ++ later) = e ∙ append_assoc past (handed_in event ∷ []) (behind ++ later) in
        let held = so_far later e' in
        let longer = sym (one-longer past (handed_in event)) in
        let r = ruled-reached rule flow past before lasts fates are in
        let alone : Leads flow.first flow.width fates (event ∷ []) answers after = subst (λ v. Leads flow.first flow.width fates v answers after) ruled.0 leads in
        let none : HaveNoArrival events = subst HaveNoArrival (sym ruled.0)
        (decided-no_arrival rule flow comings index_at safely past (behind ++ later) before lasts fates event answers after e' are alone) in (
          subst (λ k. IsInStep flow comings index_at k noted after) longer (subst (λ l. IsInStep flow comings index_at (length past + 1) l after) (sym ruled.1)
              (in_step-decided rule flow comings index_at safely past (behind ++ later) before lasts fates event answers after e' are alone held.0)),
          subst (λ k. AreKept comings index_at k after) longer (λ p channel segment earlier is.
              fate-stays flow.first flow.width (index_at p) (Some segment) events answers fates after r leads (held.1 p channel segment
              (came-earlier rule flow comings index_at safely past (behind ++ later) before lasts fates event answers after e' are alone p channel segment earlier is) is)),
          (
            held.2.0 ++ answers,
            leads-in_turn flow.first flow.width before events (held.2.0 ++ answers) no_fates after (held.2.0, answers, fates, held.2.1, leads, refl),
            verdicts-in_turn SaysKept held.2.0 answers held.2.2 (no_arrival-verdicts SaysKept flow.first flow.width events answers fates after none leads),
          ),
          near-behind flow.first flow.width segments before events held.3 none,
        )
    kept-step past behind before lasts fates (on_channel channel segment) events answers noted after are so_far ruled leads later e =
        let e' : comings ≡ past ++ on_channel channel segment ∷ (behind ++ later) = e ∙ append_assoc past (on_channel channel segment ∷ []) (behind ++ later) in
        let n = length past in
        let here = comes-here comings past (behind ++ later) (on_channel channel segment) e' in
        let r = ruled-reached rule flow past before lasts fates are in
        let t = arrival-by rule flow lasts fates channel segment events answers noted after looks r ruled leads in
        let known = up_to_date-after rule flow looks past before lasts fates are in
        let held = so_far later e' in
        let fits = taken past (behind ++ later) channel segment before events answers lasts noted fates after e' are held.0 held.1 t in
        let longer = sym (one-longer past (on_channel channel segment)) in (
          subst (λ k. IsInStep flow comings index_at k noted after) longer (still-in_step n channel segment here lasts fates known held.0 events answers noted after r leads t fits.0 fits.1 fits.2),
          subst (λ k. AreKept comings index_at k after) longer (still-kept n channel segment here lasts fates known held.0 events answers noted after r leads t fits.0 fits.1 fits.2 held.1),
          (
            held.2.0 ++ answers,
            leads-in_turn flow.first flow.width before events (held.2.0 ++ answers) no_fates after (held.2.0, answers, fates, held.2.1, leads, refl),
            verdicts-in_turn SaysKept held.2.0 answers held.2.2 (own-verdict n channel segment here lasts fates known held.0 events answers noted after r leads t fits.0 fits.1 fits.2),
          ),
          own-near n channel segment here lasts fates known held.0 events answers noted after r leads t fits.0 fits.1 fits.2 before held.2.0 held.2.1 held.3,
        )

    -- so after each front of them
    pub all-kept : (past behind : List Coming) (events : List FlowEvent) (lasts : Lasts) (fates : Fates) → comings ≡ past ++ behind → AreRuled rule flow past events lasts fates
        → IsInStep flow comings index_at (length past) lasts fates × AreKept comings index_at (length past) fates
        × ((answers : List Applied) × IsAfter flow.first flow.width events answers fates × EachVerdict SaysKept answers)
        × AreNear flow.first flow.width segments events
    all-kept past behind events lasts fates e are =
        holds-after rule flow AreAllKept kept-step past events lasts fates
        (λ later e'. (
          in_step-none flow comings index_at,
          λ p channel segment before. absurd (omega arith),
          ([], (refl, refl), λ k verdict is. absurd cc),
          λ before after segment answers reached x wrong. absurd (nothing-behind before after (arrives segment) wrong),
        )) are behind e
      where
        nothing-behind : (before after : List FlowEvent) (event : FlowEvent) → [] ≡ before ++ event ∷ after → ⊥
        nothing-behind [] after event wrong = cc
        nothing-behind (b ∷ before) after event wrong = cc

    -- so each comes near
    pub come-near : ComeNear rule flow comings index_at
    come-near before behind channel x segment events lasts fates e are expected =
        let held = all-kept before (on_channel channel segment ∷ behind) events lasts fates e are in
        let known = up_to_date-after rule flow looks before events lasts fates are in
        let here = comes-here comings before behind (on_channel channel segment) e in
        let from = index-from flow segments comings index_at numbered order (length before) channel segment here lasts fates known held.0 x expected in
        let r = ruled-reached rule flow before events lasts fates are in
        let one = ruled-some rule flow lasts fates (on_channel channel segment) r in
        let led = leads-some flow.first flow.width one.0 fates r in
        let t = arrival-by rule flow lasts fates channel segment one.0 led.0 one.1 led.1 looks r one.2 led.2 in
        let fits = taken before behind channel segment events one.0 led.0 lasts one.1 fates led.1 e are held.0 held.1 t in
        let at : t.x ≡ x = expected-unique fates t.x x t.expected expected in
        (omega arith, subst (λ k. index_at (length before) < k + 4096) at fits.0)

    -- and no skip loses what comes then or later
    pub none-lost : (before behind : List Coming) (channel other q x : ℕ) (segment another : Segment) (events skips : List FlowEvent) (answers : List Applied)
        (lasts noted : Lasts) (fates after : Fates) → comings ≡ before ++ on_channel channel segment ∷ behind → AreRuled rule flow before events lasts fates
        → IsExpected fates x → Notes flow.first x channel segment.head.sequence lasts noted → AreSkips rule flow noted fates segment.head.sequence skips
        → Leads flow.first flow.width fates skips answers after → Comes comings q other another → length before ≤ q → IsLost after (index_at q) → ⊥
    none-lost before behind channel other q x segment another events skips answers lasts noted fates after e are expected notes skips_are leads is from lost =
        let r = ruled-reached rule flow before events lasts fates are in
        let reached = reached-leads flow.first flow.width skips answers fates after r leads in
        let last = leads-some flow.first flow.width (arrives segment ∷ []) after reached in
        let own = skips ++ arrives segment ∷ [] in
        let led : Leads flow.first flow.width fates own (answers ++ last.0) last.1 =
        leads-in_turn flow.first flow.width skips (arrives segment ∷ []) (answers ++ last.0) fates last.1 (answers, last.0, after, leads, last.2, refl) in
        let front = before ++ on_channel channel segment ∷ [] in
        let more = ruled-append rule flow before events lasts fates (on_channel channel segment) own (answers ++ last.0) noted last.1 are
        (x, skips, expected, notes, skips_are, refl) led in
        let e' : comings ≡ front ++ behind = e ∙ sym (append_assoc before (on_channel channel segment ∷ []) behind) in
        let held = all-kept front behind (events ++ own) noted last.1 e' more in
        let longer = one-longer before (on_channel channel segment) in
        let still = fate-stays flow.first flow.width (index_at q) None (arrives segment ∷ []) last.0 after last.1 reached last.2 lost in
        elim (cases_eq q (length before)) [
          | inl same ↦ let kept = held.1 q other another (omega arith) is in absurd cc
          | inr differ ↦ held.0.gone q other another (omega arith) is still
        ]

    -- each is kept under its index
    module _ (events : List FlowEvent) (lasts : Lasts) (fates : Fates) (are : AreRuled rule flow comings events lasts fates) where
      pub kept-as : (p channel : ℕ) (segment : Segment) → Comes comings p channel segment → IsKeptAs fates (index_at p) segment
      kept-as p channel segment is =
          (all-kept comings [] events lasts fates (sym (append-nil comings)) are).1 p channel segment (slice_get_within comings p (on_channel channel segment) is) is

      -- and nothing else
      pub kept-came : (i : ℕ) → IsKept fates i → (p channel : ℕ) × (segment : Segment) × Comes comings p channel segment × (index_at p ≡ i)
      kept-came i kept =
          let found = (all-kept comings [] events lasts fates (sym (append-nil comings)) are).0.came i kept in
          (found.0, found.1, found.2, found.4, found.5)

      -- and on its channel none has a later one than the last
      pub kept-latest : (p channel : ℕ) (segment : Segment) → Comes comings p channel segment → (index : ℕ) × IsLastOn lasts channel index × (index_at p ≤ index)
      kept-latest p channel segment is =
          (all-kept comings [] events lasts fates (sym (append-nil comings)) are).0.latest p channel segment (slice_get_within comings p (on_channel channel segment) is) is

      -- so say the answers
      pub kept-verdicts : (answers : List Applied) → IsAfter flow.first flow.width events answers fates → EachVerdict SaysKept answers
      kept-verdicts answers is =
          let found = (all-kept comings [] events lasts fates (sym (append-nil comings)) are).2 in
          subst (EachVerdict SaysKept) (after-once flow.first flow.width events found.0 answers fates fates found.1 is).0 found.2

      -- and the events are near
      pub events-near : AreNear flow.first flow.width segments events
      events-near = (all-kept comings [] events lasts fates (sym (append-nil comings)) are).3
